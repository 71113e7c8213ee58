-- What the executions of the code are in the definitions, and what the code lists of them. Read
-- next: Kinds.
use Rattle.std.specs.Prelude.{ℕ, ◌≡◌, List, [], map, length, Vec, Result, Ok, Err, Some, slice_get, Contains, true}
use Rattle.std.specs.List.{AllZip}
use Rattle.std.specs.declared.alloc.Global.{Global}
use Rattle.text_values.specs.TestValue.{Content}
use Rattle.meaning.specs.Sets.{Set, Relation, IsAcyclic, IsListOf}
use Rattle.meaning.specs.Names.{locations}
use Rattle.meaning.specs.Runs.{Run}
use Rattle.meaning.specs.Executions.{Event, Execution, MayRead, IsOrder, NeedOrReads, IsExecution, loads_in}
use Rattle.meaning.specs.Refusals.{IsRefusal, IsAccepted}
use Rattle.plain_runs.specs.Runs.{run_as}
use Rattle.plain_domains.specs.declared.domain.Refusal.{Refusal}
use Rattle.plain_domains.specs.Domains.{refusal_as}
use Rattle.plain_events.specs.Choices.{IsIndexChoice, pick}
use Rattle.plain_events.specs.declared.event.Event as code
use Rattle.plain_events.specs.Events.{event_as, of_runs}
use Rattle.plain_executions.specs.declared.execution.Execution as executions

-- the lists of events that the code has
abbrev pub event_lists_as : List (Vec code.Event Global) → List (List Event)
event_lists_as vs = map (λ v. map event_as v.items) vs

-- the lists of such lists
abbrev pub order_lists_as : List (Vec (Vec code.Event Global) Global) → List (List (List Event))
order_lists_as vs = map (λ v. event_lists_as v.items) vs

abbrev pub execution_as : executions.Execution → Execution
execution_as x = record {
  runs = map run_as x.runs.items;
  reads_from = map event_as x.reads_from.items;
  coherence = event_lists_as x.coherence.items;
}

-- The list has all that choices pick, one from each list.
abbrev pub AreAllPicked : {X : Type 0} → List (List X) → List (List X) → Type 0
AreAllPicked lists all =
    (choices : List (List ℕ)) × IsListOf (IsIndexChoice (map length lists)) choices
    × (all ≡ map (pick lists) choices)

-- The things at these indexes are related.
abbrev pub AreRelated : {X : Type 0} → Relation X → List X → Relation ℕ
AreRelated {X} R xs i j =
    (a : X) × (b : X) × (slice_get xs i ≡ Some a) × (slice_get xs j ≡ Some b) × R a b

-- The relation relates what stands in the list alone.
abbrev pub IsAmong : {X : Type 0} → List X → Relation X → Type 0
IsAmong {X} xs R = (a b : X) → R a b → Contains xs a × Contains xs b

-- the execution of runs with its reads-from and its coherence
abbrev pub execution_of : List Run → List Event → List (List Event) → Execution
execution_of runs reads_from coherence =
    record { runs = runs; reads_from = reads_from; coherence = coherence }

-- Two events of runs with this reads-from are related by need or by reads-from.
abbrev pub NeedOrReadsOf : List Run → List Event → Relation Event
NeedOrReadsOf runs reads_from = NeedOrReads (execution_of runs reads_from [])

-- For each load there is a store that it may read.
abbrev pub AreSources : Content → List Run → Set (List Event)
AreSources t runs reads_from = AllZip (MayRead t (of_runs runs)) (loads_in 0 runs) reads_from

-- So it is, and no value comes out of thin air.
abbrev pub IsReadsFromOf : Content → List Run → Set (List Event)
IsReadsFromOf t runs reads_from =
    AreSources t runs reads_from × IsAcyclic (NeedOrReadsOf runs reads_from)

-- For each location there is an order of its stores.
abbrev pub IsCoherenceOf : Content → List Run → Set (List (List Event))
IsCoherenceOf t runs coherence = AllZip (IsOrder t (of_runs runs)) (locations t) coherence

-- It is made of these runs, this reads-from, and a coherence of the list.
abbrev pub IsExecutionWith : List Run → List (List (List Event)) → List Event → Set Execution
IsExecutionWith runs orders reads_from x =
    (coherence : List (List Event)) × Contains orders coherence
    × (execution_of runs reads_from coherence ≡ x)

-- It is made of these runs, a reads-from of the first list, and a coherence of the second.
abbrev pub IsExecutionFrom : List Run → List (List Event) → List (List (List Event)) → Set Execution
IsExecutionFrom runs all orders x =
    (reads_from : List Event) × Contains all reads_from
    × IsExecutionWith runs orders reads_from x

-- It is an execution of these runs.
abbrev pub IsExecutionOf : Content → List Run → Set Execution
IsExecutionOf t runs x =
    (x.runs ≡ runs) × IsReadsFromOf t runs x.reads_from × IsCoherenceOf t runs x.coherence

-- Some run of the list stopped at a fault.
abbrev pub HasFaultedRun : List Run → Type 0
HasFaultedRun runs = (r : Run) × Contains runs r × (r.faulted ≡ true)

-- Some run of some execution of the list did.
abbrev pub HasFaultAmong : List Execution → Type 0
HasFaultAmong xs = (x : Execution) × Contains xs x × HasFaultedRun x.runs

-- The list has the executions of the test, which is accepted, or the test is refused so.
abbrev pub AreAllExecutions : Content → Result (Vec executions.Execution Global) Refusal → Type 0
AreAllExecutions t (Ok all) = IsAccepted t × IsListOf (IsExecution t) (map execution_as all.items)
AreAllExecutions t (Err r) = IsRefusal t (refusal_as r)
