-- The list of the executions of a program has none twice.
use Rattle.std.proofs.Common.{ℕ, zero, suc, ◌≡◌, ◌<◌, inl, inr, List, [], ◌∷◌, map, length, replicate, Contains, AllPairs, Some, slice_get, get_or, refl, sym, ap, subst, ◌∙◌, arith}
use Rattle.std.specs.List.{flat_map}
use Rattle.std.proofs.lemmas.Bool.{cases_lt}
use Rattle.std.proofs.lemmas.Option.{slice_get_within, get_or_from_slice_get}
use Rattle.thread_runs.specs.declared.value.Value.{Value}
use Rattle.thread_runs.specs.Runs.{Thread, Run, AreThreadRuns, IsLess, IsLexicallyBefore}
use Rattle.store_orders.specs.declared.combination.Event.{Event}
use Rattle.store_orders.specs.Events.{is_store, is_store_to}
use Rattle.store_orders.specs.Lists.{IsFiltered, none, kept, left}
use Rattle.candidates.specs.Executions.{Execution, AreExecutions, events, loads, stores, stores_at, locations_from, product, read_choices, order_choices, orders, over_runs}
use Rattle.candidates.proofs.Elements.{mapped, joined}
use Rattle.candidates.proofs.Sole.{less_apart}
use Rattle.meaning.proofs.Counting.{here, behind, head_or_tail}
use Rattle.meaning_executions.proofs.Lists.{index_of, member, right_there, StandsOnce, none_twice, one_more_once, both_once}
use Rattle.meaning_executions.proofs.Ordering.{tail_once, numbers_once}

nothing_in : {X : Type 0} (x : X) → Contains [] x → ⊥
nothing_in x (k, lt, eq) = omega arith

-- the first element does not stand behind itself
not_behind : {X : Type 0} (x : X) (xs : List X) → StandsOnce (x ∷ xs) → Contains xs x → ⊥
not_behind x xs once there =
    let at : _ = index_of xs x there in
    let never : 0 ≡ suc at.0 = once 0 (suc at.0) x refl at.1 in
    omega (arith, never)

flat_once : {X Y : Type 0} (f : X → List Y) (xs : List X) → StandsOnce xs
    → ((x : X) → StandsOnce (f x))
    → ((x z : X) (y : Y) → Contains (f x) y → Contains (f z) y → x ≡ z)
    → StandsOnce (flat_map f xs)
flat_once f [] once each apart = none_twice
flat_once {X} f (x ∷ xs) once each apart =
    both_once (f x) (flat_map f xs) (each x) (flat_once f xs (tail_once x xs once) each apart)
    (λ j k y at there.
    let found : _ = joined f xs y (member (flat_map f xs) k y there) in
    let same : x ≡ found.0 = apart x found.0 y (member (f x) j y at) found.2 in
    not_behind x xs once (subst (λ (z : X). Contains xs z) (sym same) found.1))

map_once : {X Y : Type 0} (f : X → Y) → ((x z : X) → f x ≡ f z → x ≡ z) → (xs : List X)
    → StandsOnce xs → StandsOnce (map f xs)
map_once f one [] once = none_twice
map_once {X} f one (x ∷ xs) once =
    one_more_once (f x) (map f xs)
    (λ k at.
    let found : _ = mapped f xs (f x) (member (map f xs) k (f x) at) in
    not_behind x xs once
    (subst (λ (z : X). Contains xs z) (one found.0 x found.2) found.1))
    (map_once f one xs (tail_once x xs once))

filtered_from : {X : Type 0} (P : X → Type 0) (xs ys : List X) → IsFiltered P xs ys → (x : X)
    → Contains ys x → Contains xs x
filtered_from P [] ys none x c = c
filtered_from {X} P (z ∷ xs) ys (kept {ys = us} p f) x c = elim (head_or_tail z us x c) [
  | inl e ↦ subst (λ (y : X). Contains (z ∷ xs) y) e (here z xs)
  | inr d ↦ behind z xs x (filtered_from P xs us f x d)
]
filtered_from P (z ∷ xs) ys (left fails f) x c = behind z xs x (filtered_from P xs ys f x c)

filter_once : {X : Type 0} (P : X → Type 0) (xs ys : List X) → IsFiltered P xs ys → StandsOnce xs
    → StandsOnce ys
filter_once P [] ys none once = none_twice
filter_once P (z ∷ xs) ys (kept {ys = us} p f) once =
    one_more_once z us
    (λ k at. not_behind z xs once (filtered_from P xs us f z (member us k z at)))
    (filter_once P xs us f (tail_once z xs once))
filter_once P (z ∷ xs) ys (left fails f) once = filter_once P xs ys f (tail_once z xs once)

-- ---- Products

one_tail : {X : Type 0} (x : X) (ys zs : List X) → x ∷ ys ≡ x ∷ zs → ys ≡ zs
one_tail x ys zs e = cc

one_head : {X : Type 0} (x z : X) (ys zs us : List X) → x ∷ ys ≡ us → z ∷ zs ≡ us → x ≡ z
one_head x z ys zs us e f = let same : x ∷ ys ≡ z ∷ zs = e ∙ sym f in cc

pub product_once : {X : Type 0} (xss : List (List X))
    → ((xs : List X) → Contains xss xs → StandsOnce xs) → StandsOnce (product xss)
product_once [] each = one_more_once [] [] (λ k e. absurd cc) none_twice
product_once {X} (xs ∷ xss) each =
    let rest : StandsOnce (product xss) =
    product_once xss (λ ys there. each ys (behind xs xss ys there)) in
    flat_once (λ (x : X). map (λ (ys : List X). x ∷ ys) (product xss)) xs (each xs (here xs xss))
    (λ x. map_once (λ (ys : List X). x ∷ ys) (λ ys zs e. one_tail x ys zs e) (product xss) rest)
    (λ x z us a b.
    let first : _ = mapped (λ (ys : List X). x ∷ ys) (product xss) us a in
    let second : _ = mapped (λ (ys : List X). z ∷ ys) (product xss) us b in
    one_head x z first.0 second.0 us first.2 second.2)

same_as_all : {X : Type 0} (n : ℕ) (x y : X) → Contains (replicate n x) y → x ≡ y
same_as_all zero x y h = absurd (nothing_in y h)
same_as_all (suc n) x y h = elim (head_or_tail x (replicate n x) y h) [
  | inl e ↦ e
  | inr later ↦ same_as_all n x y later
]

module _ (es : List Event) where
  reads_once : StandsOnce (read_choices es)
  reads_once =
      product_once (map (λ load. stores es) (loads es)) (λ xs there.
      let found : _ = mapped (λ load. stores es) (loads es) xs there in
      subst (λ (ys : List ℕ). StandsOnce ys) found.2 (numbers_once is_store 0 es))

  choices_once : (location : ℕ) → StandsOnce (order_choices es location)
  choices_once location =
      product_once (replicate (length (stores_at es location)) (stores_at es location))
      (λ xs there.
      subst (λ (ys : List ℕ). StandsOnce ys)
      (same_as_all (length (stores_at es location)) (stores_at es location) xs there)
      (numbers_once (λ e. is_store_to location e.action) 0 es))

  orders_once : (initial : List Value) → StandsOnce (orders es initial)
  orders_once initial =
      product_once (map (order_choices es) (locations_from 0 initial)) (λ xs there.
      let found : _ = mapped (order_choices es) (locations_from 0 initial) xs there in
      subst (λ (ys : List (List ℕ)). StandsOnce ys) found.2 (choices_once found.0))

-- ---- Executions

module _ (initial : List Value) (rs : List Run) where
  abbrev es : List Event
  es = events initial rs

  abbrev with_order : List ℕ → List (List ℕ) → Execution
  with_order reads order = record { runs = rs; reads_from = reads; coherence = order }

  over_once : StandsOnce (over_runs initial rs)
  over_once =
      flat_once (λ reads. map (λ order. with_order reads order) (orders es initial))
      (read_choices es) (reads_once es)
      (λ reads.
      map_once (with_order reads) (λ a b e. ap (λ (x : Execution). x.coherence) e)
      (orders es initial) (orders_once es initial))
      (λ reads others x a b.
      let first : _ = mapped (with_order reads) (orders es initial) x a in
      let second : _ = mapped (with_order others) (orders es initial) x b in
      ap (λ (y : Execution). y.reads_from) (first.2 ∙ sym second.2))

  runs_of : (x : Execution) → Contains (over_runs initial rs) x → rs ≡ x.runs
  runs_of x there =
      let found : _ = joined
      (λ reads. map (λ order. with_order reads order) (orders es initial)) (read_choices es) x there in
      let own : _ = mapped (with_order found.0) (orders es initial) x found.2 in
      ap (λ (y : Execution). y.runs) own.2

pub not_before : (vs : List Value) → IsLexicallyBefore IsLess vs vs → ⊥
not_before [] h = h
not_before (v ∷ vs) (inl less) = less_apart v v less less
not_before (v ∷ vs) (inr (same, before)) = not_before vs before

pub rising_once : {X : Type 0} (R : X → X → Type 0) → ((x : X) → R x x → ⊥) → (xs : List X)
    → AllPairs R xs → StandsOnce xs
rising_once {X} R never xs rising m n x at there = elim (cases_lt m n) [
  | inl less ↦ absurd (go m n less at there)
  | inr le ↦ elim (cases_lt n m) [
    | inl less ↦ absurd (go n m less there at)
    | inr ge ↦ omega (arith, le, ge)
  ]
]
  where
    go : (j k : ℕ) → j < k → slice_get xs j ≡ Some x → slice_get xs k ≡ Some x → ⊥
    go j k less first second =
        never x
        (subst (λ (z : X). R z x) (get_or_from_slice_get xs j x x first)
        (subst (λ (z : X). R (get_or xs j x) z) (get_or_from_slice_get xs k x x second)
        (rising j k x less (slice_get_within xs k x second))))

pub executions_once : (initial : List Value) (threads : List Thread) (V : List Value)
    (xs : List Execution) → AreExecutions initial threads V xs → StandsOnce xs
executions_once initial threads V xs are =
    filter_once _ (flat_map (over_runs initial) (product are.runs)) xs are.executions
    (flat_once (over_runs initial) (product are.runs)
    (product_once are.runs (λ rs there.
    let found : _ = right_there (λ t all. AreThreadRuns t (Contains V) all) threads are.runs
    are.of_threads rs there in
    rising_once (λ (r s : Run). IsLexicallyBefore IsLess r.values s.values)
    (λ r. not_before r.values) rs found.2.rising))
    (λ rs. over_once initial rs)
    (λ rs ss x a b. runs_of initial rs x a ∙ sym (runs_of initial ss x b)))
