-- Dependencies are the same by number and by name.
use Rattle.std.proofs.Common.{ℕ, ◌≡◌, ◌<◌, ◌↔◌, true, List, length, Contains, Some, slice_get, refl}
use Rattle.text_values.specs.TestValue.{Content}
use Rattle.thread_runs.specs.declared.value.Value as numbered_value
use Rattle.thread_runs.specs.declared.instruction.Instruction as numbered_instruction
use Rattle.thread_runs.specs.declared.instruction.Instruction.TheVariants as does
use Rattle.thread_runs.specs.Runs as by_number
use Rattle.thread_runs.specs.Runs.{executed}
use Rattle.taints.specs.Chains as chains
use Rattle.store_orders.specs.declared.combination.Event as numbered_event
use Rattle.candidates.specs.Executions as numbered
use Rattle.candidates.specs.Executions.{IsDependency, event_number}
use Rattle.candidates.specs.Listed.{AreDependencyPairs}
use Rattle.base_names.specs.Events.{Below, ListedPairs}
use Rattle.meaning.specs.Dependencies as depends
use Rattle.meaning.specs.Dependencies.{Instructions}
use Rattle.meaning.specs.Executions.{Event, Does, Execution, Dependency}
use Rattle.meaning_executions.specs.Events.{IsNumbered, named_events, AreSameEvents}
use Rattle.meaning_executions.specs.ThreadRuns.{AreSameThreadRuns}
use Rattle.meaning_executions.proofs.Relating.{ByName, ByNumber, IsKind, loads_are_events, stores_are_events, depends_by_name, depends_by_number}
use Rattle.meaning_executions.specs.Names.{IsSameRelation}
use Rattle.meaning_executions.proofs.Linking.{below_numbered}

accesses_are_events : (i : numbered_instruction.Instruction) (p : chains.Resource)
    → chains.IsAddressRegister i p → chains.is_event i ≡ true
accesses_are_events (does.Immediate d n) p h = absurd h
accesses_are_events (does.Move d a) p h = absurd h
accesses_are_events (does.AddImmediate d a n) p h = absurd h
accesses_are_events (does.Operate o d a b) p h = absurd h
accesses_are_events (does.Load d a) p h = refl
accesses_are_events (does.LoadIndexed d a b) p h = refl
accesses_are_events (does.Store d a) p h = refl
accesses_are_events (does.StoreIndexed d a b) p h = refl
accesses_are_events (does.Compare a b) p h = absurd h
accesses_are_events (does.CompareImmediate a n) p h = absurd h
accesses_are_events (does.Branch c l) p h = absurd h
accesses_are_events (does.Jump l) p h = absurd h
accesses_are_events (does.Fence f) p h = absurd h

pub addr : IsKind chains.IsAddr depends.IsAddr
addr = record {
  alike = λ by_number at are i j. are.addr i j;
  first = λ at i j h. loads_are_events (at i) h.0;
  second = λ at i j h. accesses_are_events (at j) h.1.0 h.1.1;
  load = λ at i j h. h.0;
}

pub data_kind : IsKind chains.IsData depends.IsData
data_kind = record {
  alike = λ by_number at are i j. are.«data» i j;
  first = λ at i j h. loads_are_events (at i) h.0;
  second = λ at i j h. stores_are_events (at j) h.1.0 h.1.1;
  load = λ at i j h. h.0;
}

pub ctrl : IsKind chains.IsCtrl depends.IsCtrl
ctrl = record {
  alike = λ by_number at are i j. are.ctrl i j;
  first = λ at i j h. loads_are_events (at i) h.1.3.0;
  second = λ at i j h. h.0;
  load = λ at i j h. h.1.3.0;
}

pub ctrlisync : IsKind chains.IsCtrlIsync depends.IsCtrlIsync
ctrlisync = record {
  alike = λ by_number at are i j. are.ctrlisync i j;
  first = λ at i j h. loads_are_events (at i) h.1.3.1.3.0;
  second = λ at i j h. h.0;
  load = λ at i j h. h.1.3.1.3.0;
}

module _ (t : Content) (y : Execution) (ns : List numbered_event.Event)
    (same : AreSameEvents t y ns (named_events t y.runs))
    (initial : List numbered_value.Value) (x : numbered.Execution)
    (are : AreSameThreadRuns t 0 x.runs y.runs)
    (number : (thread : ℕ) (r : by_number.Run) → slice_get x.runs thread ≡ Some r → (step : ℕ)
    → chains.is_event (executed r.outcome.walk.steps step) ≡ true
    → IsNumbered (named_events t y.runs) (event_number initial x.runs thread r step)
    (Does thread step))
    (R : chains.Executed → ℕ → ℕ → Type 0) (Q : Instructions → ℕ → ℕ → Type 0)
    (kind : IsKind R Q) (pairs : List (ℕ × ℕ)) (listed : AreDependencyPairs R initial x pairs)
  where
    abbrev es : List Event
    es = named_events t y.runs

    pub dependencies : IsSameRelation es (Below (length ns) (ListedPairs pairs)) (Dependency Q y)
    dependencies = record {
      by_name = λ m n h.
          let by : ByName es (Dependency Q y) m n =
          depends_by_name t y initial x.runs es are number R Q kind m n ((listed.exact (m, n)).0 h.2) in
          (by.first, by.second, by.first_at, by.second_at, by.related);
      by_number = λ a b h.
          let by : ByNumber es (IsDependency R initial x.runs) a b =
          depends_by_number t y initial x.runs es are number R Q kind a b h in (
            by.first,
            by.second,
            by.first_at,
            by.second_at,
            (
              below_numbered t y ns same by.first a by.first_at,
              below_numbered t y ns same by.second b by.second_at,
              (listed.exact (by.first, by.second)).1 by.related,
            ),
          );
    }
