-- Reads-from is the same by number and by name.
use Rattle.std.proofs.Common.{ℕ, zero, suc, ◌≡◌, ◌<◌, ◌+◌, ◌↔◌, true, false, List, [], ◌∷◌, take, length, Some, slice_get, refl, sym, ap, subst, ◌∙◌, arith, true≢false, cond}
use Rattle.std.specs.List.{AllZip}
use Rattle.std.proofs.lemmas.Option.{same_Some, slice_get_within, slice_get-get_or, get_or_from_slice_get}
use Rattle.text_values.specs.TestValue.{Content}
use Rattle.store_orders.specs.declared.combination.Action as numbered_action
use Rattle.store_orders.specs.declared.combination.Action.TheVariants as actions
use Rattle.store_orders.specs.declared.combination.Event as numbered_event
use Rattle.store_orders.specs.Events as numbered
use Rattle.store_orders.specs.Events.{numbers, is_load, is_load_action}
use Rattle.run_combinations.proofs.Numbers.{Numbered, numbered as numbered_in}
use Rattle.candidates.specs.Executions.{loads}
use Rattle.base_names.specs.Events as of
use Rattle.base_names.specs.Events.{Below, ReadsFromBy}
use Rattle.meaning.specs.Executions.{Event, Execution, ReadsFrom, loads_in}
use Rattle.meaning_executions.specs.Events.{IsNumbered, named_events, AreSameEvents}
use Rattle.meaning_executions.proofs.Ordering.{numbers_once}
use Rattle.meaning_executions.proofs.Relating.{ByName, ByNumber, reads_by_name, reads_by_number}
use Rattle.meaning_executions.specs.Names.{IsSameRelation}
use Rattle.meaning_executions.proofs.Linking.{below_numbered}

-- ---- loads

load_of : (a : numbered_action.Action) → is_load_action a ≡ true
    → (l : ℕ) × (v : _) × (a ≡ actions.Load l v)
load_of (actions.Load l v) h = (l, v, refl)
load_of (actions.Store l v) h = absurd (true≢false (sym h))
load_of (actions.Fence f) h = absurd (true≢false (sym h))

load_is : (d : numbered_event.Event) → of.IsLoad d → is_load d ≡ true
load_is d h = ap is_load_action h.2

-- a load stands in the list of loads behind as many as there are before it
load_at : (at : ℕ) (ns : List numbered_event.Event) (n : ℕ) (d : numbered_event.Event)
    → slice_get ns n ≡ Some d → is_load d ≡ true
    → slice_get (numbers is_load at ns) (of.loads_in (take n ns)) ≡ Some (at + n)
load_at at [] n d there is = absurd cc
load_at at (e ∷ ns) zero d there is =
    first e.action (ap is_load_action (ap (λ (f : numbered_event.Event). f.action) (same_Some _ _ there)) ∙ is)
  where
    first : (a : numbered_action.Action) → is_load_action a ≡ true
        → slice_get (cond (is_load_action a) (at ∷ numbers is_load (at + 1) ns) (numbers is_load (at + 1) ns)) 0
        ≡ Some (at + 0)
    first (actions.Load l v) h = ap (λ (k : ℕ). Some k) (omega arith)
    first (actions.Store l v) h = absurd (true≢false (sym h))
    first (actions.Fence f) h = absurd (true≢false (sym h))
load_at at (e ∷ ns) (suc n) d there is =
    behind e.action (load_at (at + 1) ns n d there is ∙ ap (λ (k : ℕ). Some k) (omega arith))
  where
    behind : (a : numbered_action.Action)
        → slice_get (numbers is_load (at + 1) ns) (of.loads_in (take n ns)) ≡ Some (at + suc n)
        → slice_get (cond (is_load_action a) (at ∷ numbers is_load (at + 1) ns) (numbers is_load (at + 1) ns)) (of.loads_with a (of.loads_in (take n ns)))
        ≡ Some (at + suc n)
    behind (actions.Load l v) h =
        let next : suc (of.loads_in (take n ns)) ≡ of.loads_in (take n ns) + 1 = omega arith in
        subst
        (λ (k : ℕ). slice_get (at ∷ numbers is_load (at + 1) ns) k ≡ Some (at + suc n)) next h
    behind (actions.Store l v) h = h
    behind (actions.Fence f) h = h

-- ---- by lists

module _ (ns : List numbered_event.Event) (reads_from : List ℕ) where
  reads_listed : (m n : ℕ) → ReadsFromBy ns reads_from m n
      → numbered.ReadsFrom (loads ns) reads_from m n
  reads_listed m n (at, is) =
      let i : ℕ = of.loads_in (take n ns) in
      let there : slice_get (loads ns) i ≡ Some n =
      load_at 0 ns n at.0 at.1 (load_is at.0 at.2) ∙ ap (λ (k : ℕ). Some k) (omega arith) in (
        i,
        slice_get_within reads_from i m is,
        slice_get_within (loads ns) i n there,
        sym (get_or_from_slice_get reads_from i m 0 is),
        sym (get_or_from_slice_get (loads ns) i n 0 there),
      )

  listed_reads : (m n : ℕ) → numbered.ReadsFrom (loads ns) reads_from m n
      → ReadsFromBy ns reads_from m n
  listed_reads m n (i, lt, below, is, at) =
      let store : slice_get reads_from i ≡ Some m =
      slice_get-get_or reads_from i 0 lt ∙ ap (λ (k : ℕ). Some k) (sym is) in
      let load : slice_get (loads ns) i ≡ Some n =
      slice_get-get_or (loads ns) i 0 below ∙ ap (λ (k : ℕ). Some k) (sym at) in
      let found : Numbered is_load 0 ns n = numbered_in is_load 0 ns i n load in
      let here : found.index ≡ n = let e : n ≡ 0 + found.index = found.is in omega (arith, e) in
      let there : slice_get ns n ≡ Some found.item =
      subst (λ (k : ℕ). slice_get ns k ≡ Some found.item) here found.there in
      let own : slice_get (loads ns) (of.loads_in (take n ns)) ≡ Some n =
      load_at 0 ns n found.item there found.passes ∙ ap (λ (k : ℕ). Some k) (omega arith) in
      let same : i ≡ of.loads_in (take n ns) =
      numbers_once is_load 0 ns i (of.loads_in (take n ns)) n load own in (
        (found.item, there, load_of found.item.action found.passes),
        subst (λ (k : ℕ). slice_get reads_from k ≡ Some m) same store,
      )

module _ (t : Content) (y : Execution) (ns : List numbered_event.Event)
    (are : AreSameEvents t y ns (named_events t y.runs)) (reads_from : List ℕ)
    (same : AllZip (IsNumbered (named_events t y.runs)) reads_from y.reads_from) where
  abbrev es : List Event
  es = named_events t y.runs

  pub reads : IsSameRelation es (Below (length ns) (ReadsFromBy ns reads_from)) (ReadsFrom y)
  reads = record {
    by_name = λ m n h.
        let by : ByName es (ReadsFrom y) m n =
        reads_by_name es (loads ns) reads_from (loads_in 0 y.runs) y.reads_from are.loads same m n
        (reads_listed ns reads_from m n h.2) in
        (by.first, by.second, by.first_at, by.second_at, by.related);
    by_number = λ a b h.
        let by : ByNumber es (numbered.ReadsFrom (loads ns) reads_from) a b =
        reads_by_number es (loads ns) reads_from (loads_in 0 y.runs) y.reads_from are.loads same a b
        h in (
          by.first,
          by.second,
          by.first_at,
          by.second_at,
          (
            below_numbered t y ns are by.first a by.first_at,
            below_numbered t y ns are by.second b by.second_at,
            listed_reads ns reads_from by.first by.second by.related,
          ),
        );
  }
