-- What a model says of an execution. Read next: States.
use Rattle.std.specs.Prelude.{ℕ, ◌↔◌, List, Contains, IsTrue}
use Rattle.text_values.specs.ModelValue.{Clause}
use Rattle.text_values.specs.TestValue.{Content}
use Rattle.meaning.specs.Executions.{Execution}
use Rattle.meaning.specs.Evaluates.{IsKept, MeetsFlag}
use Rattle.plain_models.specs.declared.model.Answers.{Answers}

-- The answers say whether the model keeps the execution, and which flags it meets.
pub record AreAnswersOf (t : Content) (items : List Clause) (x : Execution) (a : Answers)
    : Type 0 where
  pub kept : IsTrue a.is_kept ↔ IsKept t items x
  pub flags : (i : ℕ) → Contains a.flags.items i ↔ MeetsFlag t items i x
