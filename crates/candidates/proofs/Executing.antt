-- The executions of one choice of runs: each read choice with each order of the stores.
use Rattle.std.proofs.Common.{ℕ, ◌≡◌, ◌<◌, ◌≤◌, ◌+◌, ◌&&◌, Bool, true, false, cond, nat_eq, List, [], ◌∷◌, ◌++◌, map, length, Option, Some, None, is_some, refl, ap, sym, ◌∙◌, inl, inr, arith, eq-eqb, Contains}
use Rattle.std.specs.List.{flat_map, AllZip}
use Rattle.std.proofs.lemmas.Bool.{cases_eq}
use Rattle.bit_rows.specs.Pairs.{Union, IsAcyclic}
use Rattle.thread_runs.specs.declared.value.Value.{Value}
use Rattle.thread_runs.specs.declared.instruction.Event as run
use Rattle.thread_runs.specs.Runs.{Thread, Run, IsThreadRun}
use Rattle.taints.specs.Chains.{IsNeed}
use Rattle.candidates.proofs.Coherence.{location_orders}
use Rattle.store_orders.proofs.Counting.{eq_true, numbers_above}
use Rattle.candidates.proofs.Products.{FilteredEach, filter_of_product, filter_of_products}
use Rattle.candidates.proofs.ReadsFrom.{reads_found}
use Rattle.candidates.specs.Executions.{Execution, IsExecution, IsDependency, IsStoreOrder, MayRead, product, read_choices, order_choices, orders, over_runs, loads, stores_at, locations_from, events, events_from}
use Rattle.candidates.specs.Listed.{ChoosesApart, IsReadsFrom, IsCoherence}
use Rattle.store_orders.specs.Lists.{IsFiltered}
use Rattle.store_orders.specs.Events.{numbers, has_store, is_store_to, thread_events, with_action, action_in, initial_stores, ReadsFrom}
use Rattle.store_orders.specs.Orders.{orders_of, is_thread_store}
use Rattle.run_combinations.specs.ReadChoices.{AreReadChoices, accesses_in}
use Rattle.store_orders.specs.declared.combination.Action.{Action}
use Rattle.store_orders.specs.declared.combination.Event.{Event}

-- events of threads
abbrev InThreads : List Event → Type 0
InThreads [] = Unit {0}
InThreads (e ∷ es) = ((t : ℕ) × (e.thread ≡ Some t)) × InThreads es

in_threads_both : (es fs : List Event) → InThreads es → InThreads fs → InThreads (es ++ fs)
in_threads_both [] fs h k = k
in_threads_both (e ∷ es) fs h k = (h.0, in_threads_both es fs h.1 k)

in_thread : (t : ℕ) (a : Option Action) → InThreads (with_action t a)
in_thread t None = tt
in_thread t (Some a) = ((t, refl), tt)

part_in_threads : (t : ℕ) (es : List run.Event) → InThreads (thread_events t es)
part_in_threads t [] = tt
part_in_threads t (e ∷ es) =
    in_threads_both (with_action t (action_in e)) (thread_events t es) (in_thread t (action_in e))
    (part_in_threads t es)

runs_in_threads : (t : ℕ) (rs : List Run) → InThreads (events_from t rs)
runs_in_threads t [] = tt
runs_in_threads t (r ∷ rs) =
    in_threads_both (thread_events t r.outcome.walk.events) (events_from (t + 1) rs)
    (part_in_threads t r.outcome.walk.events) (runs_in_threads (t + 1) rs)

-- of these all stores are stores of threads
abbrev stores_from : ℕ → ℕ → List Event → List ℕ
stores_from location at es = numbers (λ e. is_store_to location e.action) at es

thread_stores : (l at : ℕ) (es : List Event) → InThreads es
    → stores_from l at es ≡ numbers (is_thread_store l) at es
thread_stores l at [] h = refl
thread_stores l at (e ∷ es) h =
    ap (λ (ns : List ℕ). cond (is_store_to l e.action) (at ∷ ns) ns) (thread_stores l (at + 1) es h.1)
    ∙ ap
    (λ (o : Option ℕ). cond (is_some o && is_store_to l e.action)
    (at ∷ numbers (is_thread_store l) (at + 1) es)
    (numbers (is_thread_store l) (at + 1) es))
    (sym h.0.1)

-- the initial stores are none
past_initial : (l at n : ℕ) (vs : List Value) (es : List Event) → n ≡ at + length vs
    → numbers (is_thread_store l) at (initial_stores at vs ++ es) ≡ numbers (is_thread_store l) n es
past_initial l at n [] es e =
    let z : at ≡ n = omega (arith, e) in ap (λ (k : ℕ). numbers (is_thread_store l) k es) z
past_initial l at n (v ∷ vs) es e = past_initial l (at + 1) n vs es (omega (arith, e))

unlike : (a b : ℕ) → (a ≡ b → ⊥) → nat_eq a b ≡ false
unlike a b differ = go (nat_eq a b) refl
  where
    go : (c : Bool) → nat_eq a b ≡ c → c ≡ false
    go true e = absurd (differ (eq_true a b e))
    go false e = refl

-- each location has its initial store, which has the number of the location
later_stores : (l at n : ℕ) (vs : List Value) (es : List Event) → l < at → n ≡ at + length vs
    → InThreads es
    → stores_from l at (initial_stores at vs ++ es) ≡ numbers (is_thread_store l) n es
later_stores l at n [] es lt e h =
    let z : at ≡ n = omega (arith, e) in
    thread_stores l at es h ∙ ap (λ (k : ℕ). numbers (is_thread_store l) k es) z
later_stores l at n (v ∷ vs) es lt e h =
    ap
    (λ (b : Bool). cond b (at ∷ stores_from l (at + 1) (initial_stores (at + 1) vs ++ es))
    (stores_from l (at + 1) (initial_stores (at + 1) vs ++ es)))
    (unlike at l (λ s. omega (arith, s, lt)))
    ∙ later_stores l (at + 1) n vs es (omega (arith, lt)) (omega (arith, e)) h

own_stores : (l at n : ℕ) (vs : List Value) (es : List Event) → at ≤ l → l < n → n ≡ at + length vs
    → InThreads es
    → stores_from l at (initial_stores at vs ++ es) ≡ l ∷ numbers (is_thread_store l) n es
own_stores l at n [] es le lt e h = absurd (omega (arith, le, lt, e))
own_stores l at n (v ∷ vs) es le lt e h = elim (cases_eq at l) [
  | inl s ↦
      ap
      (λ (b : Bool). cond b (at ∷ stores_from l (at + 1) (initial_stores (at + 1) vs ++ es))
      (stores_from l (at + 1) (initial_stores (at + 1) vs ++ es)))
      (eq-eqb at l s)
      ∙ ap (λ (ns : List ℕ). at ∷ ns) (later_stores l (at + 1) n vs es (omega (arith, s))
      (omega (arith, e)) h)
      ∙ ap (λ (k : ℕ). k ∷ numbers (is_thread_store l) n es) s
  | inr d ↦
      ap
      (λ (b : Bool). cond b (at ∷ stores_from l (at + 1) (initial_stores (at + 1) vs ++ es))
      (stores_from l (at + 1) (initial_stores (at + 1) vs ++ es)))
      (unlike at l d)
      ∙ own_stores l (at + 1) n vs es (omega (arith, le, d)) lt (omega (arith, e)) h
]

-- the stores of a location by threads, and its orders
abbrev pub others_at : List Event → ℕ → List ℕ
others_at es location = numbers (is_thread_store location) 0 es

abbrev pub orders_at : List Event → List Value → List (List (List ℕ))
orders_at es initial = map (λ l. orders_of l (others_at es l)) (locations_from 0 initial)

module _ (initial : List Value) (runs : List Run) where
  stores_are : (l : ℕ) → l < length initial
      → stores_at (events initial runs) l ≡ l ∷ others_at (events initial runs) l
  stores_are l lt =
      own_stores l 0 (length initial) initial (events_from 0 runs) (omega arith) lt (omega arith)
      (runs_in_threads 0 runs)
      ∙ ap (λ (ns : List ℕ). l ∷ ns) (sym (past_initial l 0 (length initial) initial
      (events_from 0 runs) (omega arith)))

  pub apart : (l : ℕ) → l < length initial → has_store (others_at (events initial runs) l) l ≡ false
  apart l lt =
      ap (λ (ns : List ℕ). has_store ns l) (past_initial l 0 (length initial) initial
      (events_from 0 runs) (omega arith))
      ∙ numbers_above (is_thread_store l) (length initial) (events_from 0 runs) l lt

  each_location : (at : ℕ) (vs : List Value) → at + length vs ≡ length initial
      → FilteredEach (IsStoreOrder (events initial runs)) (locations_from at vs)
      (map (order_choices (events initial runs)) (locations_from at vs)) (map
      (λ l. orders_of l (others_at (events initial runs) l)) (locations_from at vs))
  each_location at [] e = tt
  each_location at (v ∷ vs) e =
      let lt : at < length initial = omega (arith, e) in (
        location_orders (events initial runs) at (others_at (events initial runs) at)
            (stores_are at lt) (apart at lt),
        each_location (at + 1) vs (omega (arith, e)),
      )

  pub orders_filtered : IsFiltered
      (AllZip (IsStoreOrder (events initial runs)) (locations_from 0 initial))
      (orders (events initial runs) initial) (product (orders_at (events initial runs) initial))
  orders_filtered =
      filter_of_products (IsStoreOrder (events initial runs)) (locations_from 0 initial)
      (map (order_choices (events initial runs)) (locations_from 0 initial))
      (orders_at (events initial runs) initial) (each_location 0 initial (omega arith))

  -- an execution of these runs
  abbrev pub executed_so : List ℕ → List (List ℕ) → Execution
  executed_so reads_from coherence = record { runs = runs; reads_from = reads_from; coherence = coherence }

  -- the executions among all that can be put together of these runs: each read choice with each
  -- order of the stores
  pub executions_found : (threads : List Thread) (V : List Value) (pairs : List (ℕ × ℕ))
      → AllZip (λ t r. IsThreadRun t (Contains V) r) threads runs
      → ((a b : ℕ) → IsDependency IsNeed initial runs a b
      → (accesses_in (events initial runs) pairs).Need a b)
      → ((a b : ℕ) → (accesses_in (events initial runs) pairs).Need a b
      → IsDependency IsNeed initial runs a b) → (choices : List (List ℕ))
      → AreReadChoices (events initial runs) pairs choices
      → IsFiltered (IsExecution initial threads (Contains V)) (over_runs initial runs)
      (flat_map
      (λ reads_from. map (executed_so reads_from) (product (orders_at (events initial runs) initial)))
      choices)
  executions_found threads V pairs are there back choices found =
      filter_of_product
      (λ reads_from. AllZip (MayRead (events initial runs)) (loads (events initial runs)) reads_from
      × IsAcyclic (Union (IsDependency IsNeed initial runs)
      (ReadsFrom (loads (events initial runs)) reads_from)))
      (AllZip (IsStoreOrder (events initial runs)) (locations_from 0 initial))
      (IsExecution initial threads (Contains V)) executed_so
      (λ reads_from coherence. (
        (λ x. ((x.reads, x.acyclic), x.orders)),
        (λ p. record { runs = are; reads = p.0.0; orders = p.1; acyclic = p.0.1 }),
      ))
      (read_choices (events initial runs)) choices (orders (events initial runs) initial)
      (product (orders_at (events initial runs) initial))
      (reads_found (events initial runs) pairs (IsDependency IsNeed initial runs) there back choices
      found) orders_filtered

-- reads-from and coherence are chosen apart
pub chosen_apart : (initial : List Value) (threads : List Thread) (V : List Value) (runs : List Run)
    → ChoosesApart initial threads V runs
chosen_apart initial threads V runs reads coherences are r o =
    filter_of_product (IsReadsFrom initial runs) (IsCoherence initial runs)
    (IsExecution initial threads (Contains V)) (executed_so initial runs)
    (λ reads_from coherence. (
      (λ x. ((x.reads, x.acyclic), x.orders)),
      (λ p. record { runs = are; reads = p.0.0; orders = p.1; acyclic = p.0.1 }),
    ))
    (read_choices (events initial runs)) reads (orders (events initial runs) initial) coherences r o
