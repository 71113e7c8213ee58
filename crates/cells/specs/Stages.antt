-- The jobs that a list of events keeps, as plain data.
use Rattle.std.specs.Prelude.{List, [], ◌∷◌, ◌++◌, Option, Some, None}
use Rattle.cells.specs.declared.stage.Stage.{Stage}
use Rattle.cells.specs.declared.stage.Stage.TheVariants.{Waiting, Ran}
use Rattle.cells.specs.Views.{Task, task_answered}

module _ {K T O V G E P F : Type 0} where
  -- the job, while it is there
  abbrev pub stage_tasks : Option (Stage K T O V G E P F) → List (Task V G)
  stage_tasks None = []
  stage_tasks (Some (Waiting job)) = job ∷ []
  stage_tasks (Some (Ran done)) = task_answered done ∷ []

  abbrev pub tasks_in : List (Option (Stage K T O V G E P F)) → List (Task V G)
  tasks_in [] = []
  tasks_in (j ∷ js) = stage_tasks j ++ tasks_in js
