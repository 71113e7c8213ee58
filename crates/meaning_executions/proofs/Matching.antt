-- The executions of a program are those of its test.
use Rattle.std.proofs.Common.{ℕ, ◌≡◌, ◌<◌, ◌+◌, List, [], length, All, Contains, Some, slice_get, sym, ap, subst, ◌∙◌, arith, vec_len}
use Rattle.std.specs.List.{AllZip}
use Rattle.std.proofs.lemmas.Option.{slice_get_within}
use Rattle.std.proofs.lemmas.List.Elements.{All-weaker}
use Rattle.text_values.specs.declared.test.Test.{Test}
use Rattle.text_values.specs.TestValue.{Content, content_of}
use Rattle.thread_runs.specs.declared.value.Value as numbered_value
use Rattle.thread_runs.specs.declared.instruction.Program.{Program}
use Rattle.thread_runs.specs.Runs as by_number
use Rattle.thread_runs.specs.Runs.{IsThreadRun}
use Rattle.thread_runs.specs.AllRuns.{thread_of}
use Rattle.ppc_lowering.specs.Domain.{InDomainAt, IsDomainAt, load_total, threads_of}
use Rattle.ppc_lowering.specs.Lowering.{IsProgram}
use Rattle.store_orders.specs.declared.combination.Event as numbered_event
use Rattle.store_orders.specs.Events.{is_store_to}
use Rattle.run_combinations.proofs.Numbers.{Numbered, contained}
use Rattle.candidates.specs.Executions as candidates
use Rattle.candidates.specs.Executions.{IsStoreOrder, locations_from, loads, stores_at}
use Rattle.meaning.specs.Names.{locations}
use Rattle.meaning.specs.Runs.{IsRun}
use Rattle.meaning.specs.Domain.{InDomain}
use Rattle.meaning.specs.Executions.{Event, Execution, Stores, AreRuns, IsEvent, IsExecution, IsOrder, MayRead, loads_in}
use Rattle.meaning_executions.specs.Domain.{IsNumberedRun}
use Rattle.meaning_executions.specs.Events.{AreSameEvents, IsNumbered, IsSameEvent, named_events}
use Rattle.meaning_executions.specs.Executions.{IsSameExecution, IsProgramExecution, AreSameExecutions}
use Rattle.meaning_executions.proofs.Lists.{at_left, chosen, turned, each_second}
use Rattle.meaning_executions.proofs.Ordering.{all_of, orders_by_name, orders_by_number}
use Rattle.meaning_executions.proofs.Reading.{reads_by_name, reads_by_number}
use Rattle.meaning_executions.proofs.Relating.{acyclic_named, acyclic_numbered}
use Rattle.meaning_executions.proofs.Knowing.{initial_are, correspond, number_at}
use Rattle.meaning_executions.proofs.Threads.{threads_run, runs_of_threads, same_long, many_threads, runs_named, runs_numbered}
use Rattle.meaning_executions.proofs.Sole.{one_named, one_numbered}

-- an event has that number
abbrev HasEvent : List numbered_event.Event → ℕ → Type 0
HasEvent ns n = (d : numbered_event.Event) × (slice_get ns n ≡ Some d)

stores_have_events : (ns : List numbered_event.Event) (k n : ℕ) → Contains (stores_at ns k) n
    → HasEvent ns n
stores_have_events ns k n there =
    let found : Numbered (λ e. is_store_to k e.action) 0 ns n =
    contained (λ e. is_store_to k e.action) ns n there in
    let is : n ≡ found.index = let i : n ≡ 0 + found.index = found.is in omega (arith, i) in
    (found.item, ap (λ (j : ℕ). slice_get ns j) is ∙ found.there)

module _ (t : Test) (p : Program) (of : IsProgram t p) (V : List numbered_value.Value)
    (domain : IsDomainAt p (load_total p) V) where
  abbrev content : Content
  content = content_of t

  to_domain : (s : by_number.Thread) (r : by_number.Run) → IsThreadRun s (Contains V) r
      → IsThreadRun s (InDomainAt p (load_total p)) r
  to_domain s r (all, is) =
      (All-weaker (Contains V) (InDomainAt p (load_total p)) (λ v h. (domain.exact v).0 h) r.values all, is)

  from_domain : (s : by_number.Thread) (r : by_number.Run)
      → IsThreadRun s (InDomainAt p (load_total p)) r → IsThreadRun s (Contains V) r
  from_domain s r (all, is) =
      (All-weaker (InDomainAt p (load_total p)) (Contains V) (λ v h. (domain.exact v).1 h) r.values all, is)

  -- ---- Of two that are the same, one is an execution where the other is

  module _ (x : candidates.Execution) (y : Execution) (same : IsSameExecution content x y)
      (runs : AreRuns content y.runs) where
    abbrev ns : List numbered_event.Event
    ns = candidates.events p.initial.items x.runs

    abbrev es : List Event
    es = named_events content y.runs

    are : AreSameEvents content y ns es
    are = correspond t p of x.runs y same.runs runs

    execution_named : IsProgramExecution p V x → IsExecution content y
    execution_named h = record {
      runs = runs;
      reads =
          reads_by_name content y ns es are x.reads_from y.reads_from same.reads_from h.reads;
      orders = orders_by_name content y ns es are p.initial.items (initial_are t p of).each_one x.coherence y.coherence same.coherence h.orders;
      acyclic = acyclic_named content y p.initial.items x.runs es same.runs
          (number_at t p of x.runs y same.runs runs) (loads ns) x.reads_from are.loads
          same.reads_from are.once h.acyclic;
    }

    execution_numbered : AllZip (λ s r. IsThreadRun s (Contains V) r) (threads_of p) x.runs
        → IsExecution content y → IsProgramExecution p V x
    execution_numbered threads h = record {
      runs = threads;
      reads =
          reads_by_number content y ns es are x.reads_from y.reads_from same.reads_from h.reads;
      orders = orders_by_number content y ns es are p.initial.items (initial_are t p of).each_one x.coherence y.coherence same.coherence h.orders;
      acyclic = acyclic_numbered content y p.initial.items x.runs es same.runs
          (number_at t p of x.runs y same.runs runs) (loads ns) x.reads_from are.loads
          same.reads_from h.acyclic;
    }

  -- ---- Each has one that is the same

  each_named : (x : candidates.Execution) → IsProgramExecution p V x
      → (y : Execution) × IsExecution content y × IsSameExecution content x y
  each_named x h =
      let ns : List numbered_event.Event = candidates.events p.initial.items x.runs in
      let threads : _ = threads_run p (Contains V) x.runs h.runs in
      let many : _ = many_threads t p of in
      let count : length x.runs ≡ vec_len p.threads = threads.0 in
      let named : _ = runs_named t p of 0 x.runs (omega (arith, count)) (λ j k r e at.
      let here : k ≡ j = omega (arith, e) in
      subst (λ (n : ℕ). IsNumberedRun p n r) here (to_domain (thread_of p k) r (threads.1 k r at))) in
      let long : length x.runs ≡ length named.0 = same_long named.1 in
      let runs : AreRuns content named.0 = record {
        threads = sym long ∙ count ∙ many;
        each = λ k q at. named.2 k k q (omega arith) at;
      } in
      let es : List Event = named_events content named.0 in
      let bare : Execution = record { runs = named.0; reads_from = []; coherence = [] } in
      let are : AreSameEvents content bare ns es = correspond t p of x.runs bare named.1 runs in
      let to : (n : ℕ) → HasEvent ns n → (e : Event) × IsNumbered es n e = λ n has.
      let found : _ = at_left (IsSameEvent content bare) ns es are.alike n has.0 has.1 in
      (found.0, found.1) in
      let reads : _ = chosen (IsNumbered es) (HasEvent ns) to x.reads_from
      (each_second (candidates.MayRead ns) (HasEvent ns)
      (λ m n may. let store : _ = may.3 in (store.0, store.1)) (loads ns) x.reads_from h.reads) in
      let orders : _ = chosen (AllZip (IsNumbered es)) (All (HasEvent ns))
      (λ order all. chosen (IsNumbered es) (HasEvent ns) to order all) x.coherence
      (each_second (IsStoreOrder ns) (All (HasEvent ns))
      (λ k order is. All-weaker (Contains (stores_at ns k)) (HasEvent ns)
      (λ n there. stores_have_events ns k n there) order is.stores)
      (locations_from 0 p.initial.items) x.coherence h.orders) in
      let y : Execution = record {
        runs = named.0;
        reads_from = reads.0;
        coherence = orders.0;
      } in
      let same : IsSameExecution content x y = record {
        runs = named.1;
        reads_from = reads.1;
        coherence = orders.1;
      } in
      (y, execution_named x y same runs h, same)

  each_numbered : (y : Execution) → IsExecution content y
      → (x : candidates.Execution) × IsProgramExecution p V x × IsSameExecution content x y
  each_numbered y h =
      let many : _ = many_threads t p of in
      let count : length y.runs ≡ length content.threads = h.runs.threads in
      let numbered : _ = runs_numbered t p of 0 y.runs (omega (arith, count, many)) (λ j k q e at.
      let here : k ≡ j = omega (arith, e) in
      subst (λ (n : ℕ). IsRun content (InDomain content) n q) here (h.runs.each k q at)) in
      let long : length numbered.0 ≡ length y.runs = same_long numbered.1 in
      let ns : List numbered_event.Event = candidates.events p.initial.items numbered.0 in
      let es : List Event = named_events content y.runs in
      let are : AreSameEvents content y ns es = correspond t p of numbered.0 y numbered.1 h.runs in
      let to : (e : Event) → IsEvent content y e → (n : ℕ) × IsNumbered es n e = are.complete in
      let reads : _ = chosen (λ e n. IsNumbered es n e) (IsEvent content y) to y.reads_from
      (each_second (MayRead content y) (IsEvent content y)
      (λ load store may. (Stores may.0 may.1, may.3)) (loads_in 0 y.runs) y.reads_from h.reads) in
      let orders : _ = chosen (λ named order. AllZip (IsNumbered es) order named)
      (All (IsEvent content y))
      (λ named all.
      let own : _ = chosen (λ e n. IsNumbered es n e) (IsEvent content y) to named all in
      (own.0, turned (λ e n. IsNumbered es n e) named own.0 own.1)) y.coherence
      (each_second (IsOrder content y) (All (IsEvent content y))
      (λ l named is. all_of (IsEvent content y) named
      (λ e there. let store : _ = (is.0.exact e).0 there in (Stores l store.0, store.1)))
      (locations content) y.coherence h.orders) in
      let x : candidates.Execution = record {
        runs = numbered.0;
        reads_from = reads.0;
        coherence = orders.0;
      } in
      let same : IsSameExecution content x y = record {
        runs = numbered.1;
        reads_from = turned (λ e n. IsNumbered es n e) y.reads_from reads.0 reads.1;
        coherence =
            turned (λ named order. AllZip (IsNumbered es) order named) y.coherence orders.0 orders.1;
      } in
      let threads : AllZip (λ s r. IsThreadRun s (Contains V) r) (threads_of p) numbered.0 =
      runs_of_threads p (Contains V) numbered.0 (long ∙ count ∙ sym many)
      (λ k r at. from_domain (thread_of p k) r (numbered.2 k k r (omega arith) at)) in
      (x, execution_numbered x y same h.runs threads h, same)

  -- ---- The law

  runs_are_of : (x : candidates.Execution) → IsProgramExecution p V x → (k : ℕ)
      (r : by_number.Run) → slice_get x.runs k ≡ Some r
      → (k < length t.threads.items) × IsNumberedRun p k r
  runs_are_of x h k r at =
      let threads : _ = threads_run p (Contains V) x.runs h.runs in
      let within : k < length x.runs = slice_get_within x.runs k r at in
      let under : k < vec_len p.threads = subst (λ (n : ℕ). k < n) threads.0 within in (
        subst (λ (n : ℕ). k < n) (p.threads.ok.0 ∙ of.threads.each_one) under,
        to_domain (thread_of p k) r (threads.1 k r at),
      )

  pub same_executions : AreSameExecutions content p V
  same_executions = record {
    by_name = each_named;
    by_number = each_numbered;
    one_name = λ x y z first second h g.
        one_named content x y z first.runs.each second.runs.each h g;
    one_number = λ x z y first second h g.
        one_numbered t p of x z y (runs_are_of x first) (runs_are_of z second) h g;
  }
