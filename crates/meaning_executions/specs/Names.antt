-- The predefined names of a candidate, whose events are numbers, and those of its execution, whose
-- events have names. Read next: Ends.
use Rattle.std.specs.Prelude.{Vec, ℕ, ◌≡◌, ◌<◌, List, length}
use Rattle.std.specs.declared.alloc.Global.{Global}
use Rattle.text_values.specs.declared.test.Test.{Test}
use Rattle.predefined_names.specs.declared.predefined.Predefined.{Predefined}
use Rattle.text_values.specs.TestValue.{Content, content_of}
use Rattle.thread_runs.specs.declared.instruction.Program.{Program}
use Rattle.thread_runs.specs.declared.value.Value.{Value}
use Rattle.ppc_lowering.specs.Lowering.{IsProgram}
use Rattle.candidates.specs.Executions as numbered
use Rattle.candidates.specs.Listed.{ShowsExecution}
use Rattle.candidate_spaces.specs.Space.{Candidate, shown_of}
use Rattle.base_names.specs.Candidate.{SetIn, RelationIn}
use Rattle.meaning.specs.Sets.{Set, Relation}
use Rattle.meaning.specs.Executions.{Event, Execution, IsEvent, IsExecution}
use Rattle.meaning.specs.Predefined.{EventsOf, PairsOf}
use Rattle.meaning_executions.specs.Events.{IsNumbered, named_events}
use Rattle.meaning_executions.specs.Executions.{IsSameExecution, IsProgramExecution}

-- The set of numbers and that of events have the same members. The list has the events in the order
-- of their numbers.
pub record IsSameSet (es : List Event) (S : ℕ → Type 0) (T : Set Event) : Type 0 where
  pub by_name : (n : ℕ) → S n → (e : Event) × IsNumbered es n e × T e
  pub by_number : (e : Event) → T e → (n : ℕ) × IsNumbered es n e × S n

-- The relation on numbers and that on events have the same pairs.
pub record IsSameRelation (es : List Event) (R : ℕ → ℕ → Type 0) (Q : Relation Event)
    : Type 0 where
  pub by_name : (m n : ℕ) → R m n
      → (a : Event) × (b : Event) × IsNumbered es m a × IsNumbered es n b × Q a b
  pub by_number : (a b : Event) → Q a b
      → (m : ℕ) × (n : ℕ) × IsNumbered es m a × IsNumbered es n b × R m n

-- The events of the candidate are those of the execution, and so are the members of each predefined
-- set and the pairs of each predefined relation.
pub record AreNamesMeant (t : Content) (y : Execution) (one : Candidate) : Type 0 where
  pub events : IsSameSet (named_events t y.runs) (λ n. n < length one.0.events.items) (IsEvent t y)
  pub sets : (p : Predefined)
      → IsSameSet (named_events t y.runs) (SetIn one.0 (length one.0.events.items) p) (EventsOf t y p)
  pub relations : (p : Predefined)
      → IsSameRelation (named_events t y.runs)
      (RelationIn p (length one.0.events.items) one.0 one.1.0 one.1.1) (PairsOf t y p)

-- So it is for a candidate that shows an execution of the program of a test, and for the execution
-- by name that is the same.
abbrev pub PredefinedNamesAreMeant : Type 0
PredefinedNamesAreMeant =
    (t : Test) (p : Program) → IsProgram t p → (values : List Value) (x : numbered.Execution)
    → IsProgramExecution p values x → (y : Execution) → IsExecution (content_of t) y
    → IsSameExecution (content_of t) x y → (ends : List (Vec (List Value) Global)) (one : Candidate)
    → ShowsExecution p.initial.items x (shown_of ends one)
    → AreNamesMeant (content_of t) y one
