-- A run by numbers and a run by names that execute the same. Read next: Domain.
use Rattle.std.specs.Prelude.{ℕ, ◌≡◌, Bool, List, [], ◌∷◌, ◌++◌, flat_map, Option, Some, None}
use Rattle.text_values.specs.TestValue.{Content}
use Rattle.thread_runs.specs.declared.value.Value as numbered_value
use Rattle.thread_runs.specs.declared.instruction.Program.{Program}
use Rattle.thread_runs.specs.declared.instruction.RunStep.{RunStep}
use Rattle.thread_runs.specs.declared.instruction.Event as numbered_event
use Rattle.thread_runs.specs.Runs as by_number
use Rattle.thread_runs.specs.Runs.{RunOutcome}
use Rattle.thread_runs.specs.AllRuns.{thread_of}
use Rattle.ppc_lowering.specs.Lowering.{AreNamesOf, labels_in, lowered_instruction}
use Rattle.meaning.specs.Names.{Name, locations}
use Rattle.meaning.specs.Machine.{Value}
use Rattle.meaning.specs.Runs.{Instance, Run, run_of, initial_state, lines_of_thread}
use Rattle.meaning.specs.Domain.{free_run_of}
use Rattle.meaning_executions.specs.Values.{IsSameValue, AreSameValues, IsSameState}
use Rattle.meaning_executions.specs.Instructions.{AreEventsOf}

-- The steps and the events of a run by numbers are these instances, in their order.
pub data AreSameSteps (names labels : List Name)
    : List RunStep → List numbered_event.Event → List Instance → Type 0 where
  none : AreSameSteps names labels [] [] []
  more : {s : RunStep} {steps : List RunStep} {es events : List numbered_event.Event}
      {i : Instance} {instances : List Instance}
      → s.instruction ≡ lowered_instruction labels i.instruction
      → IsSameValue names s.loaded i.loaded → AreEventsOf names i es
      → AreSameSteps names labels steps events instances
      → AreSameSteps names labels (s ∷ steps) (es ++ events) (i ∷ instances)

-- The two runs execute the same, end in the same state, and both end at a fault or both do not.
pub record IsSameRun (names labels : List Name) (o : RunOutcome) (r : Run) : Type 0 where
  pub steps : AreSameSteps names labels o.walk.steps o.walk.events r.instances
  pub final : IsSameState names o.walk.state r.final
  pub faulted : o.faulted ≡ r.faulted

-- There is neither run, or both and they are the same.
pub data IsSameOutcome (names labels : List Name) : Option RunOutcome → Option Run → Type 0 where
  neither : IsSameOutcome names labels None None
  both : {o : RunOutcome} {r : Run} → IsSameRun names labels o r
      → IsSameOutcome names labels (Some o) (Some r)

-- On the same values, and with the same choices in a free run, the thread has the same run by
-- numbers and by names, or neither. Its labels are numbered in their order.
pub record RunsAlike (t : Content) (p : Program) (thread : ℕ) : Type 0 where
  pub labels : List Name
  pub numbered : AreNamesOf (flat_map labels_in (lines_of_thread t thread)) labels
  pub runs : (vs : List numbered_value.Value) (ws : List Value)
      → AreSameValues (locations t) vs ws
      → IsSameOutcome (locations t) labels
      (by_number.run_of (thread_of p thread).lines (thread_of p thread).first vs)
      (run_of (lines_of_thread t thread) None (initial_state t thread) ws)
  pub free_runs : (choices : List Bool) (vs : List numbered_value.Value) (ws : List Value)
      → AreSameValues (locations t) vs ws
      → IsSameOutcome (locations t) labels
      (by_number.free_run_of (thread_of p thread).lines (thread_of p thread).first choices vs)
      (free_run_of (lines_of_thread t thread) None (initial_state t thread) choices ws)
