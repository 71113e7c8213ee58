-- Coherence is the same by number and by name.
use Rattle.std.proofs.Common.{ℕ, zero, suc, ◌≡◌, ◌<◌, ◌+◌, ◌⊎◌, inl, inr, List, [], ◌∷◌, ◌++◌, length, Contains, Some, slice_get, refl, sym, ap, subst, ◌∙◌, arith}
use Rattle.std.specs.List.{AllZip, flat_map}
use Rattle.std.proofs.lemmas.Option.{same_Some, slice_get_within}
use Rattle.std.proofs.lemmas.List.Elements.{All-contains}
use Rattle.text_values.specs.TestValue.{Content}
use Rattle.thread_runs.specs.declared.value.Value as numbered_value
use Rattle.store_orders.specs.declared.combination.Action.TheVariants as actions
use Rattle.store_orders.specs.declared.combination.Event as numbered_event
use Rattle.store_orders.specs.Events.{is_store_to}
use Rattle.run_combinations.proofs.Numbers.{Numbered, contained}
use Rattle.candidates.specs.Executions.{IsStoreOrder, locations_from, stores_at}
use Rattle.candidates.proofs.Elements.{behind_first, in_first}
use Rattle.base_names.specs.Events as of
use Rattle.base_names.specs.Events.{Below, location_of}
use Rattle.meaning.specs.Executions.{Event, Execution, Coherence}
use Rattle.meaning.proofs.Counting.{here, behind}
use Rattle.meaning_executions.specs.Events.{IsNumbered, named_events, AreSameEvents}
use Rattle.meaning_executions.proofs.Lists.{at_left, at_right, left_there, right_there, member, index_of, which_part}
use Rattle.meaning_executions.proofs.Ordering.{store_action}
use Rattle.meaning_executions.specs.Names.{IsSameRelation}
use Rattle.meaning_executions.proofs.Linking.{below_numbered}

-- ---- lists one after another

abbrev pub flat : List (List ℕ) → List ℕ
flat xss = flat_map (λ order. order) xss

part_of : (xss : List (List ℕ)) (j n : ℕ) → slice_get (flat xss) j ≡ Some n
    → (k : ℕ) × (o : List ℕ) × (slice_get xss k ≡ Some o) × Contains o n
part_of [] j n at = absurd cc
part_of (xs ∷ xss) j n at = elim (which_part xs (flat xss) j n at) [
  | inl there ↦ (0, xs, refl, member xs j n there)
  | inr (i, is, there) ↦
      let found : _ = part_of xss i n there in (suc found.0, found.1, found.2, found.3)
]

-- two members stand in one of the lists, or the first in an earlier one
data InParts (xss : List (List ℕ)) (m n : ℕ) : Type 0 where
  within : (o : List ℕ) (p q : ℕ) → Contains xss o → p < q → slice_get o p ≡ Some m
      → slice_get o q ≡ Some n → InParts xss m n
  across : (k l : ℕ) (o u : List ℕ) → k < l → slice_get xss k ≡ Some o
      → slice_get xss l ≡ Some u → Contains o m → Contains u n → InParts xss m n

parts_later : (xs : List ℕ) (xss : List (List ℕ)) (m n : ℕ) → InParts xss m n
    → InParts (xs ∷ xss) m n
parts_later xs xss m n (within o p q c lt a b) = within o p q (behind xs xss o c) lt a b
parts_later xs xss m n (across k l o u lt a b c d) =
    across (suc k) (suc l) o u (omega (arith, lt)) a b c d

two_parts : (xss : List (List ℕ)) (i j m n : ℕ) → slice_get (flat xss) i ≡ Some m
    → slice_get (flat xss) j ≡ Some n → i < j → InParts xss m n
two_parts [] i j m n at there lt = absurd cc
two_parts (xs ∷ xss) i j m n at there lt =
    both (which_part xs (flat xss) i m at) (which_part xs (flat xss) j n there)
    (λ k l. two_parts xss k l m n)
  where
    both : ((slice_get xs i ≡ Some m)
        ⊎ ((k : ℕ) × (i ≡ length xs + k) × (slice_get (flat xss) k ≡ Some m)))
        → ((slice_get xs j ≡ Some n)
        ⊎ ((k : ℕ) × (j ≡ length xs + k) × (slice_get (flat xss) k ≡ Some n)))
        → ((k l : ℕ) → slice_get (flat xss) k ≡ Some m → slice_get (flat xss) l ≡ Some n
        → k < l → InParts xss m n)
        → InParts (xs ∷ xss) m n
    both (inl e) (inl f) rest = within xs i j (here xs xss) lt e f
    both (inl e) (inr (l, is, f)) rest =
        let found : _ = part_of xss l n f in
        across 0 (suc found.0) xs found.1 (omega arith) refl found.2 (member xs i m e) found.3
    both (inr (k, is, e)) (inl f) rest =
        let below : j < length xs = slice_get_within xs j n f in
        absurd (omega (arith, below, is, lt))
    both (inr (k, is, e)) (inr (l, at_l, f)) rest =
        parts_later xs xss m n (rest k l e f (omega (arith, is, at_l, lt)))

part_at : (xss : List (List ℕ)) (k : ℕ) (o : List ℕ) → slice_get xss k ≡ Some o
    → (base : ℕ)
    × ((p x : ℕ) → slice_get o p ≡ Some x → slice_get (flat xss) (base + p) ≡ Some x)
part_at [] k o at = absurd cc
part_at (xs ∷ xss) zero o at = (
  0,
  λ p x h.
      let zeroth : p ≡ 0 + p = omega arith in
      subst (λ (i : ℕ). slice_get (xs ++ flat xss) i ≡ Some x) zeroth
      (in_first xs (flat xss) p x
      (subst (λ (ys : List ℕ). slice_get ys p ≡ Some x) (sym (same_Some _ _ at)) h)),
)
part_at (xs ∷ xss) (suc k) o at =
    let rest : _ = part_at xss k o at in (
      length xs + rest.0,
      λ p x h.
          let sum : length xs + (rest.0 + p) ≡ (length xs + rest.0) + p = omega arith in
          subst (λ (i : ℕ). slice_get (xs ++ flat xss) i ≡ Some x) sum
          (behind_first xs (flat xss) (rest.0 + p) ∙ rest.1 p x h),
    )

-- ---- stores of a location

location_at : (from : ℕ) (vs : List numbered_value.Value) (k l : ℕ)
    → slice_get (locations_from from vs) k ≡ Some l → from + k ≡ l
location_at from [] k l at = absurd cc
location_at from (v ∷ vs) zero l at =
    let is : from ≡ l = same_Some _ _ at in omega (arith, is)
location_at from (v ∷ vs) (suc k) l at =
    let is : (from + 1) + k ≡ l = location_at (from + 1) vs k l at in omega (arith, is)

store_of : (ns : List numbered_event.Event) (l n : ℕ) → Contains (stores_at ns l) n
    → (d : numbered_event.Event) × (slice_get ns n ≡ Some d) × (v : numbered_value.Value)
    × (d.action ≡ actions.Store l v)
store_of ns l n there =
    let found : Numbered (λ e. is_store_to l e.action) 0 ns n =
    contained (λ e. is_store_to l e.action) ns n there in
    let is : found.index ≡ n = let i : n ≡ 0 + found.index = found.is in omega (arith, i) in
    let does : _ = store_action l found.item.action found.passes in (
      found.item,
      subst (λ (k : ℕ). slice_get ns k ≡ Some found.item) is found.there,
      does.0,
      does.1,
    )

module _ (t : Content) (y : Execution) (ns : List numbered_event.Event)
    (are : AreSameEvents t y ns (named_events t y.runs)) (initial : List numbered_value.Value)
    (xss : List (List ℕ))
    (same : AllZip (AllZip (IsNumbered (named_events t y.runs))) xss y.coherence)
    (orders : AllZip (IsStoreOrder ns) (locations_from 0 initial) xss) where
  abbrev es : List Event
  es = named_events t y.runs

  pub order_of : (k : ℕ) (o : List ℕ) → slice_get xss k ≡ Some o → IsStoreOrder ns k o
  order_of k o at =
      let found : _ = at_right (IsStoreOrder ns) (locations_from 0 initial) xss orders k o at in
      let is : found.0 ≡ k =
      let e : 0 + k ≡ found.0 = location_at 0 initial k found.0 found.1 in omega (arith, e) in
      subst (λ (l : ℕ). IsStoreOrder ns l o) is found.2

  pub has_store : (k : ℕ) (o : List ℕ) (n : ℕ) → slice_get xss k ≡ Some o → Contains o n
      → (d : numbered_event.Event) × (slice_get ns n ≡ Some d) × (v : numbered_value.Value)
      × (d.action ≡ actions.Store k v)
  has_store k o n at there =
      store_of ns k n (All-contains (Contains (stores_at ns k)) o n (order_of k o at).stores there)

  has_location : (k : ℕ) (o : List ℕ) (n : ℕ) → slice_get xss k ≡ Some o → Contains o n
      → (d : numbered_event.Event) × (slice_get ns n ≡ Some d) × (location_of d.action ≡ Some k)
  has_location k o n at there =
      let store : _ = has_store k o n at there in (store.0, store.1, ap location_of store.3)

  abbrev By : ℕ → ℕ → Type 0
  By m n = (a : Event) × (b : Event) × IsNumbered es m a × IsNumbered es n b × Coherence y a b

  named : (m n : ℕ) → of.SameLocation ns m n → InParts xss m n → By m n
  named m n both (within o p q c lt at there) =
      let found : _ = left_there (AllZip (IsNumbered es)) xss y.coherence same o c in
      let one : _ = at_left (IsNumbered es) o found.0 found.2 p m at in
      let other : _ = at_left (IsNumbered es) o found.0 found.2 q n there in
      (one.0, other.0, one.2, other.2, (found.0, found.1, p, q, lt, one.1, other.1))
  named m n both (across k l o u lt at there c d) =
      let one : _ = has_location k o m at c in
      let other : _ = has_location l u n there d in
      let place : ℕ = both.4.0 in
      let first : k ≡ place =
      same_Some _ _
      (sym one.2 ∙ (ap (λ (e : numbered_event.Event). location_of e.action)
      (same_Some _ _ (sym one.1 ∙ both.2)) ∙ both.4.1)) in
      let second : l ≡ place =
      same_Some _ _
      (sym other.2 ∙ (ap (λ (e : numbered_event.Event). location_of e.action)
      (same_Some _ _ (sym other.1 ∙ both.3)) ∙ both.4.2)) in
      absurd (omega (arith, first, second, lt))

  pub coherences : IsSameRelation es (Below (length ns) (of.Coherence ns (flat xss))) (Coherence y)
  coherences = record {
    by_name = λ m n h. at_order m n h.2;
    by_number = λ a b h. at_named a b h;
  }
    where
      at_order : (m n : ℕ) → of.Coherence ns (flat xss) m n → By m n
      at_order m n (i, (j, lt, at, there, both)) =
          named m n both (two_parts xss i j m n at there lt)

      at_named : (a b : Event) → Coherence y a b
          → (m : ℕ) × (n : ℕ) × IsNumbered es m a × IsNumbered es n b
          × Below (length ns) (of.Coherence ns (flat xss)) m n
      at_named a b (order, c, i, j, lt, at, there) =
          let found : _ = right_there (AllZip (IsNumbered es)) xss y.coherence same order c in
          let one : _ = at_right (IsNumbered es) found.0 order found.2 i a at in
          let other : _ = at_right (IsNumbered es) found.0 order found.2 j b there in
          let place : _ = index_of xss found.0 found.1 in
          let base : _ = part_at xss place.0 found.0 place.1 in
          let first : _ =
          has_location place.0 found.0 one.0 place.1 (member found.0 i one.0 one.1) in
          let second : _ =
          has_location place.0 found.0 other.0 place.1 (member found.0 j other.0 other.1) in (
            one.0,
            other.0,
            one.2,
            other.2,
            (
              below_numbered t y ns are one.0 a one.2,
              below_numbered t y ns are other.0 b other.2,
              (
                base.0 + i,
                (
                  base.0 + j,
                  omega (arith, lt),
                  base.1 i one.0 one.1,
                  base.1 j other.0 other.1,
                  (first.0, second.0, first.1, second.1, (place.0, first.2, second.2)),
                ),
              ),
            ),
          )
