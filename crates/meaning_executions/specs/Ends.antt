-- What the observables of a condition hold where an execution ends, by number and by name. Read
-- next: Satisfied.
use Rattle.std.specs.Prelude.{◌≡◌, ◌↔◌, List, Some}
use Rattle.text_values.specs.declared.test.Test.{Test}
use Rattle.text_values.specs.declared.test.Place.{Place}
use Rattle.text_values.specs.TestValue.{Content, content_of}
use Rattle.thread_runs.specs.declared.instruction.Program.{Program}
use Rattle.thread_runs.specs.declared.value.Value as numbered_value
use Rattle.ppc_lowering.specs.Lowering.{IsProgram}
use Rattle.candidates.specs.Executions as numbered
use Rattle.candidates.specs.Listed.{ShowsExecution}
use Rattle.candidate_spaces.specs.Space.{Shown}
use Rattle.outcome_states.specs.declared.observable.Observable.{Observable}
use Rattle.outcome_states.specs.Final.{final_value, value_shown}
use Rattle.outcome_states.specs.Meaning.{known_observable}
use Rattle.meaning.specs.Names.{locations}
use Rattle.meaning.specs.Machine.{Value}
use Rattle.meaning.specs.Executions.{Execution, IsExecution}
use Rattle.meaning.specs.Outcome.{EndsWith}
use Rattle.meaning_executions.specs.Values.{IsSameValue}
use Rattle.meaning_executions.specs.Executions.{IsSameExecution, IsProgramExecution}

-- The observable holds one value at the end, by number and by name.
pub record HoldsAlike (t : Content) (y : Execution) (e : Shown) (place : Place) (o : Observable)
    : Type 0 where
  pub value : numbered_value.Value
  pub by_number : final_value e o ≡ value_shown value
  pub by_name : (w : Value) → EndsWith t y place w ↔ IsSameValue (locations t) value w

-- So it is for the observables of a test, in an execution of its program and the execution by name
-- that is the same.
abbrev pub EndsAreMeant : Type 0
EndsAreMeant =
    (t : Test) (p : Program) → IsProgram t p → (values : List numbered_value.Value)
    (x : numbered.Execution) → IsProgramExecution p values x → (y : Execution)
    → IsExecution (content_of t) y → IsSameExecution (content_of t) x y → (e : Shown)
    → ShowsExecution p.initial.items x e → (place : Place) (o : Observable)
    → known_observable (locations (content_of t)) place ≡ Some o
    → HoldsAlike (content_of t) y e place o
