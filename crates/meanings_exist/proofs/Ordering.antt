-- The order of states: of two states of words, of one length, one comes before the other or both
-- are one.
use Rattle.std.proofs.Common.{◌≡◌, inl, inr, ℕ, ◌+◌, ◌%◌, ◌^◌, ◌<◌, true, IsTrue, List, [], ◌∷◌, length, refl, sym, ap, ap₂, subst, ◌∙◌, arith, true≢false, ltb-true, lt-ltb, Ordering, Less, Equal, Greater, nat_cmp, is_lt}
use Rattle.std.specs.List.{AllByRecursion}
use Rattle.std.specs.Ordering.{ordering_reverse}
use Rattle.std.specs.Cmp.Lexicographic.{slice_cmp}
use Rattle.std.proofs.lemmas.Bool.{cases_order}
use Rattle.std.proofs.lemmas.Cmp.{nat_list_cmp_total}
use Rattle.std.proofs.lemmas.Map.Lookups.{exact_bytes}
use Rattle.meaning.specs.Names.{Name, is_name_before}
use Rattle.meaning.specs.Machine.{Value, Number, Address, NoValue, is_less}
use Rattle.meaning.specs.Outcome.{is_value_before, IsStateBefore}
use Rattle.meaning_laws.specs.Words.{IsWord}
use Rattle.meanings_exist.specs.Sorted.{Compared, IsGood}

-- ---- names

less_is : (r : Ordering) → is_lt r ≡ true → r ≡ Less
less_is Less h = refl
less_is Equal h = absurd (true≢false (sym h))
less_is Greater h = absurd (true≢false (sym h))

names_transitive : (a b c : Name) → IsTrue (is_name_before a b) → IsTrue (is_name_before b c)
    → IsTrue (is_name_before a c)
names_transitive a b c first second =
    ap is_lt
    (nat_list_cmp_total.trans a b c (less_is (slice_cmp nat_cmp a b) first)
    (less_is (slice_cmp nat_cmp b c) second))

names_compared : (a b : Name) → Compared (λ c d. IsTrue (is_name_before c d)) a b
names_compared a b = by (slice_cmp nat_cmp a b) refl
  where
    by : (r : Ordering) → slice_cmp nat_cmp a b ≡ r
        → Compared (λ c d. IsTrue (is_name_before c d)) a b
    by Less e = inl (ap is_lt e)
    by Equal e = inr (inl (exact_bytes a b e))
    by Greater e =
        inr (inr (ap is_lt (nat_list_cmp_total.antisymm b a ∙ ap ordering_reverse e)))

-- ---- numbers

-- numbers of 32 bits are told by their order as signed numbers
shifted_is_one : (m n : ℕ) → m < 2 ^ 32 → n < 2 ^ 32
    → (m + 2 ^ 31) % 2 ^ 32 ≡ (n + 2 ^ 31) % 2 ^ 32 → m ≡ n
shifted_is_one m n small few e = omega (arith, small, few, e)

numbers_compared : (m n : ℕ) → m < 2 ^ 32 → n < 2 ^ 32
    → Compared (λ i j. IsTrue (is_less i j)) m n
numbers_compared m n small few =
    elim (cases_order ((m + 2 ^ 31) % 2 ^ 32) ((n + 2 ^ 31) % 2 ^ 32)) [
      | inl e ↦ inr (inl (shifted_is_one m n small few e))
      | inr (inl before) ↦ inl (lt-ltb _ _ before)
      | inr (inr after) ↦ inr (inr (lt-ltb _ _ after))
    ]

numbers_transitive : (m n k : ℕ) → IsTrue (is_less m n) → IsTrue (is_less n k)
    → IsTrue (is_less m k)
numbers_transitive m n k first second =
    let below : _ = ltb-true _ _ first in
    let above : _ = ltb-true _ _ second in
    lt-ltb _ _ (omega (arith, below, above))

-- ---- values

abbrev ValueBefore : Value → Value → Type 0
ValueBefore v w = IsTrue (is_value_before v w)

values_compared : (v w : Value) → IsWord v → IsWord w → Compared ValueBefore v w
values_compared (Number m) (Number n) small few = elim (numbers_compared m n small few) [
  | inl before ↦ inl before
  | inr (inl e) ↦ inr (inl (ap (λ (k : ℕ). Number k) e))
  | inr (inr after) ↦ inr (inr after)
]
values_compared (Number m) (Address l) small few = inl refl
values_compared (Number m) NoValue small few = inl refl
values_compared (Address k) (Number n) small few = inr (inr refl)
values_compared (Address k) (Address l) small few = elim (names_compared k l) [
  | inl before ↦ inl before
  | inr (inl e) ↦ inr (inl (ap (λ (n : Name). Address n) e))
  | inr (inr after) ↦ inr (inr after)
]
values_compared (Address k) NoValue small few = inl refl
values_compared NoValue (Number n) small few = inr (inr refl)
values_compared NoValue (Address l) small few = inr (inr refl)
values_compared NoValue NoValue small few = inr (inl refl)

values_transitive : (v w u : Value) → ValueBefore v w → ValueBefore w u → ValueBefore v u
values_transitive (Number m) (Number n) (Number k) first second =
    numbers_transitive m n k first second
values_transitive (Number m) w (Address l) first second = refl
values_transitive (Number m) w NoValue first second = refl
values_transitive (Number m) (Address l) (Number k) first second =
    absurd (true≢false (sym second))
values_transitive (Number m) NoValue (Number k) first second = absurd (true≢false (sym second))
values_transitive (Address k) (Address l) (Address m) first second =
    names_transitive k l m first second
values_transitive (Address k) w NoValue first second = refl
values_transitive (Address k) (Address l) (Number n) first second =
    absurd (true≢false (sym second))
values_transitive (Address k) (Number n) u first second = absurd (true≢false (sym first))
values_transitive (Address k) NoValue (Number n) first second = absurd (true≢false (sym second))
values_transitive (Address k) NoValue (Address l) first second = absurd (true≢false (sym second))
values_transitive NoValue (Number n) u first second = absurd (true≢false (sym first))
values_transitive NoValue (Address l) u first second = absurd (true≢false (sym first))
values_transitive NoValue NoValue u first second = absurd (true≢false (sym first))

-- ---- states

pub states_transitive : (a b c : List Value) → IsStateBefore a b → IsStateBefore b c
    → IsStateBefore a c
states_transitive [] b c first second = absurd first
states_transitive (v ∷ a) [] c first second = absurd first
states_transitive (v ∷ a) (w ∷ b) [] first second = absurd second
states_transitive (v ∷ a) (w ∷ b) (u ∷ c) (inl before) (inl later) =
    inl (values_transitive v w u before later)
states_transitive (v ∷ a) (w ∷ b) (u ∷ c) (inl before) (inr later) =
    inl (subst (λ (z : Value). ValueBefore v z) later.0 before)
states_transitive (v ∷ a) (w ∷ b) (u ∷ c) (inr before) (inl later) =
    inl (subst (λ (z : Value). ValueBefore z u) (sym before.0) later)
states_transitive (v ∷ a) (w ∷ b) (u ∷ c) (inr before) (inr later) =
    inr (before.0 ∙ later.0, states_transitive a b c before.1 later.1)

compared_parts : (a b : List Value) → AllByRecursion IsWord a → AllByRecursion IsWord b
    → length a ≡ length b → Compared IsStateBefore a b
compared_parts [] [] first second same = inr (inl refl)
compared_parts [] (w ∷ b) first second same = absurd (omega (arith, same))
compared_parts (v ∷ a) [] first second same = absurd (omega (arith, same))
compared_parts (v ∷ a) (w ∷ b) first second same =
    by (values_compared v w first.0 second.0)
    (compared_parts a b first.1 second.1 (omega (arith, same)))
  where
    by : Compared ValueBefore v w → Compared IsStateBefore a b
        → Compared IsStateBefore (v ∷ a) (w ∷ b)
    by (inl before) rest = inl (inl before)
    by (inr (inr after)) rest = inr (inr (inl after))
    by (inr (inl e)) (inl before) = inl (inr (e, before))
    by (inr (inl e)) (inr (inl same)) =
        inr (inl (ap₂ (λ (h : Value) (t : List Value). h ∷ t) e same))
    by (inr (inl e)) (inr (inr after)) = inr (inr (inr (sym e, after)))

pub states_compared : (n : ℕ) (a b : List Value) → IsGood n a → IsGood n b
    → Compared IsStateBefore a b
states_compared n a b first second =
    compared_parts a b first.words second.words (first.count ∙ sym second.count)
