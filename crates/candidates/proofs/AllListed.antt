-- The list of the executions of a test has each execution, its loads taking any values.
use Rattle.std.proofs.Common.{ℕ, zero, suc, ◌≡◌, ◌+◌, List, [], ◌∷◌, map, replicate, length, Some, slice_get, ap, sym, subst, inl, inr, arith, Contains, All}
use Rattle.std.specs.List.{AllZip, flat_map}
use Rattle.std.proofs.lemmas.List.Elements.{All-contains, All-tail, All-head, All-weaker}
use Rattle.text_values.specs.declared.test.Test.{Test}
use Rattle.thread_runs.specs.declared.value.Value.{Value}
use Rattle.thread_runs.specs.Runs.{Thread, Run, IsThreadRun, AreThreadRuns}
use Rattle.thread_runs.specs.ValueSet.{IsProperValue}
use Rattle.ppc_lowering.specs.Domain.{threads_of}
use Rattle.candidates.proofs.NoLocation.{over_any_domain}
use Rattle.candidates.proofs.Elements.{member_cases, member_later, member_first, no_member, mapped_there, joined_there}
use Rattle.run_combinations.proofs.Numbers.{number_there}
use Rattle.store_orders.specs.Events.{is_store, is_store_action}
use Rattle.candidates.specs.Executions.{Execution, IsExecution, IsStoreOrder, MayRead, loads, stores, stores_at, locations_from, events, product, read_choices, order_choices, orders, over_runs}
use Rattle.candidates.specs.Laws.{HasAllExecutions}
use Rattle.store_orders.specs.Lists.{IsFiltered, none, kept, left}
use Rattle.store_orders.specs.declared.combination.Action.TheVariants.{Store}
use Rattle.store_orders.specs.declared.combination.Event.{Event}

-- members of a filter
pub filtered_there : {X : Type 0} (P : X → Type 0) (xs ys : List X) → IsFiltered P xs ys → (x : X)
    → Contains xs x → P x → Contains ys x
filtered_there P [] ys none x c p = absurd (no_member x c)
filtered_there {X} P (z ∷ xs) ys (kept {ys = us} q f) x c p = elim (member_cases z xs x c) [
  | inl e ↦ subst (λ (y : X). Contains (z ∷ us) y) e (member_first z us)
  | inr d ↦ member_later z us x (filtered_there P xs us f x d p)
]
filtered_there {X} P (z ∷ xs) ys (left fails f) x c p = elim (member_cases z xs x c) [
  | inl e ↦ absurd (fails (subst P (sym e) p))
  | inr d ↦ filtered_there P xs ys f x d p
]

filtered_holds : {X : Type 0} (P : X → Type 0) (xs ys : List X) → IsFiltered P xs ys → (x : X)
    → Contains ys x → P x
filtered_holds P [] ys none x c = absurd (no_member x c)
filtered_holds {X} P (z ∷ xs) ys (kept {ys = us} q f) x c = elim (member_cases z us x c) [
  | inl e ↦ subst P e q
  | inr d ↦ filtered_holds P xs us f x d
]
filtered_holds P (z ∷ xs) ys (left fails f) x c = filtered_holds P xs ys f x c

-- and of a product: one of each list
product_there : {X : Type 0} (xss : List (List X)) (ys : List X) → AllZip Contains xss ys
    → Contains (product xss) ys
product_there [] [] h = member_first [] []
product_there [] (y ∷ ys) h = absurd h
product_there (xs ∷ xss) [] h = absurd h
product_there {X} (xs ∷ xss) (y ∷ ys) h =
    joined_there (λ (x : X). map (λ (rest : List X). x ∷ rest) (product xss)) xs y (y ∷ ys) h.0
    (mapped_there (λ (rest : List X). y ∷ rest) (product xss) ys (product_there xss ys h.1))

-- runs
runs_there : (V : List Value) (threads : List Thread) (rss : List (List Run)) (rs : List Run)
    → AllZip (λ t all. AreThreadRuns t (Contains V) all) threads rss
    → AllZip (λ t r. IsThreadRun t (Contains V) r) threads rs → AllZip Contains rss rs
runs_there V [] [] [] h k = tt
runs_there V [] [] (r ∷ rs) h k = absurd k
runs_there V [] (all ∷ rss) rs h k = absurd h
runs_there V (t ∷ threads) [] rs h k = absurd h
runs_there V (t ∷ threads) (all ∷ rss) [] h k = absurd k
runs_there V (t ∷ threads) (all ∷ rss) (r ∷ rs) h k =
    ((h.0.exact r).1 k.0, runs_there V threads rss rs h.1 k.1)

-- reads-from
reads_there : (es : List Event) (ls ss : List ℕ) → AllZip (MayRead es) ls ss
    → AllZip Contains (map (λ load. stores es) ls) ss
reads_there es [] [] h = tt
reads_there es [] (s ∷ ss) h = absurd h
reads_there es (l ∷ ls) [] h = absurd h
reads_there es (l ∷ ls) (s ∷ ss) h = (here h.0.3.1 h.0.3.2, reads_there es ls ss h.1)
  where
    here : slice_get es s ≡ Some h.0.3.0 → h.0.3.0.action ≡ Store h.0.0 h.0.1
        → Contains (stores es) s
    here there is =
        let z : 0 + s ≡ s = omega arith in
        subst (λ (k : ℕ). Contains (stores es) k) z
        (number_there is_store 0 es s h.0.3.0 there (ap is_store_action is))

-- coherence
drawn : (ss order : List ℕ) (n : ℕ) → length order ≡ n → All (Contains ss) order
    → AllZip Contains (replicate n ss) order
drawn ss [] zero long h = tt
drawn ss [] (suc n) long h = absurd (omega (arith, long))
drawn ss (x ∷ order) zero long h = absurd (omega (arith, long))
drawn ss (x ∷ order) (suc n) long h = (
  All-head (Contains ss) x order h,
  drawn ss order n (omega (arith, long)) (All-tail (Contains ss) x order h),
)

orders_there : (es : List Event) (ls : List ℕ) (os : List (List ℕ)) → AllZip (IsStoreOrder es) ls os
    → AllZip Contains (map (order_choices es) ls) os
orders_there es [] [] h = tt
orders_there es [] (o ∷ os) h = absurd h
orders_there es (l ∷ ls) [] h = absurd h
orders_there es (l ∷ ls) (o ∷ os) h = (
  product_there (replicate (length (stores_at es l)) (stores_at es l)) o
      (drawn (stores_at es l) o (length (stores_at es l)) h.0.each h.0.stores),
  orders_there es ls os h.1,
)

-- so all executions over the values are there
listed : (initial : List Value) (threads : List Thread) (V : List Value) (rss : List (List Run))
    → AllZip (λ t all. AreThreadRuns t (Contains V) all) threads rss → (x : Execution)
    → IsExecution initial threads (Contains V) x
    → Contains (flat_map (over_runs initial) (product rss)) x
listed initial threads V rss are x is =
    let es : List Event = events initial x.runs in
    joined_there (over_runs initial) (product rss) x.runs x (product_there rss x.runs
    (runs_there V threads rss x.runs are is.runs))
    (joined_there
    (λ reads_from. map
    (λ coherence. record { runs = x.runs; reads_from = reads_from; coherence = coherence })
    (orders es initial))
    (read_choices es) x.reads_from x
    (product_there (map (λ load. stores es) (loads es)) x.reads_from
    (reads_there es (loads es) x.reads_from is.reads))
    (mapped_there
    (λ coherence. record { runs = x.runs; reads_from = x.reads_from; coherence = coherence })
    (orders es initial) x.coherence
    (product_there (map (order_choices es) (locations_from 0 initial)) x.coherence
    (orders_there es (locations_from 0 initial) x.coherence is.orders))))

weaker_runs : (V : List Value) → All IsProperValue V → (threads : List Thread) (rs : List Run)
    → AllZip (λ t r. IsThreadRun t (Contains V) r) threads rs → AllZip (λ t r. IsThreadRun t IsProperValue r) threads rs
weaker_runs V ones [] [] h = tt
weaker_runs V ones [] (r ∷ rs) h = absurd h
weaker_runs V ones (t ∷ threads) [] h = absurd h
weaker_runs V ones (t ∷ threads) (r ∷ rs) h = (
  (All-weaker (Contains V) IsProperValue (λ v c. All-contains IsProperValue V v ones c) r.values h.0.0, h.0.1),
  weaker_runs V ones threads rs h.1,
)

-- and those whose loads take any values
pub all_executions : (t : Test) → HasAllExecutions t
all_executions t initial xs h x = (to, back)
  where
    to : Contains xs x → IsExecution initial (threads_of h.program) IsProperValue x
    to c =
        let is : IsExecution initial (threads_of h.program) (Contains h.values) x =
        filtered_holds (IsExecution initial (threads_of h.program) (Contains h.values))
        (flat_map (over_runs initial) (product h.executions.runs)) xs h.executions.executions x
        c in
        record { runs = weaker_runs h.values h.domain.last.set.proper (threads_of h.program) x.runs is.runs; reads = is.reads; orders = is.orders; acyclic = is.acyclic }

    back : IsExecution initial (threads_of h.program) IsProperValue x → Contains xs x
    back is =
        let over : IsExecution initial (threads_of h.program) (Contains h.values) x =
        subst (λ (vs : List Value). IsExecution vs (threads_of h.program) (Contains h.values) x)
        (sym h.starts)
        (over_any_domain t h.program h.values h.of_test h.domain.last x (subst
        (λ (vs : List Value). IsExecution vs (threads_of h.program) IsProperValue x) h.starts
        is)) in
        filtered_there (IsExecution initial (threads_of h.program) (Contains h.values))
        (flat_map (over_runs initial) (product h.executions.runs)) xs h.executions.executions x
        (listed initial (threads_of h.program) h.values h.executions.runs h.executions.of_threads x
        over) over
