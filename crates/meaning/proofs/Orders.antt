-- The order of names, of values and of states; locations stand once in their list.
use Rattle.std.proofs.Common.{◌≡◌, ◌⊎◌, inl, inr, ℕ, zero, suc, Bool, true, false, IsTrue, List, [], ◌∷◌, ◌++◌, flat_map, Contains, if◌then◌else◌, bytes_eq, zip, refl, sym, ap, subst, ◌∙◌, arith, true≢false, ltb-true, Ordering, Less, Equal, Greater, nat_cmp, is_lt}
use Rattle.std.specs.Ordering.{ordering_reverse}
use Rattle.std.specs.Cmp.Lexicographic.{slice_cmp}
use Rattle.std.proofs.lemmas.Cmp.{nat_list_cmp_total}
use Rattle.std.proofs.lemmas.Map.Lookups.{exact_bytes}
use Rattle.std.proofs.lemmas.Slice.Eq.{bytes_eq-Decides}
use Rattle.text_values.specs.TestValue.{Content}
use Rattle.meaning.specs.Names.{Name, is_name_before, with_one, in_order, locations_of_entry, locations_of_formula, locations_of_observable, locations}
use Rattle.meaning.specs.Machine.{Value, Number, Address, NoValue, is_less}
use Rattle.meaning.specs.Outcome.{is_value_before, IsStateBefore}
use Rattle.meaning.proofs.Counting.{here, behind, head_or_tail}

less_is : (r : Ordering) → is_lt r ≡ true → r ≡ Less
less_is Less h = refl
less_is Equal h = absurd (true≢false (sym h))
less_is Greater h = absurd (true≢false (sym h))

pub name_asymmetric : (a b : Name) → IsTrue (is_name_before a b) → IsTrue (is_name_before b a) → ⊥
name_asymmetric a b first second =
    let less : slice_cmp nat_cmp a b ≡ Less = less_is (slice_cmp nat_cmp a b) first in
    let turned : slice_cmp nat_cmp a b ≡ Greater =
    nat_list_cmp_total.antisymm a b
    ∙ ap ordering_reverse (less_is (slice_cmp nat_cmp b a) second) in
    true≢false (ap is_lt (sym less ∙ turned))

name_transitive : (a b c : Name) → IsTrue (is_name_before a b) → IsTrue (is_name_before b c)
    → IsTrue (is_name_before a c)
name_transitive a b c first second =
    ap is_lt
    (nat_list_cmp_total.trans a b c (less_is (slice_cmp nat_cmp a b) first)
    (less_is (slice_cmp nat_cmp b c) second))

greater_is : (r : Ordering) → (r ≡ Equal → ⊥) → is_lt r ≡ false → r ≡ Greater
greater_is Less unequal h = absurd (true≢false h)
greater_is Equal unequal h = absurd (unequal refl)
greater_is Greater unequal h = refl

name_total : (a b : Name) → bytes_eq a b ≡ false → is_name_before a b ≡ false
    → IsTrue (is_name_before b a)
name_total a b unequal not_before =
    ap is_lt
    (nat_list_cmp_total.antisymm b a
    ∙ ap ordering_reverse
    (greater_is (slice_cmp nat_cmp a b)
    (λ eq. true≢false
    (sym ((bytes_eq-Decides a b).1 (exact_bytes a b eq)) ∙ unequal))
    not_before))

-- names in order: each comes before those behind it
abbrev pub IsAbove : Name → List Name → Type 0
IsAbove a ns = (n : Name) → Contains ns n → IsTrue (is_name_before a n)

abbrev pub Rise : List Name → Type 0
Rise [] = Unit {0}
Rise (n ∷ ns) = IsAbove n ns × Rise ns

abbrev pub put : Name → List Name → List Name
put = with_one bytes_eq is_name_before

-- what stands in a list with one name more
members_if : (n m : Name) (ms : List Name) (same before : Bool) (x : Name)
    → ((x : Name) → Contains (put n ms) x → (n ≡ x) ⊎ Contains ms x)
    → Contains (if same then m ∷ ms else if before then n ∷ m ∷ ms else m ∷ put n ms) x
    → (n ≡ x) ⊎ Contains (m ∷ ms) x
members_if n m ms true before x rest h = inr h
members_if n m ms false true x rest h = head_or_tail n (m ∷ ms) x h
members_if n m ms false false x rest h = placed (head_or_tail m (put n ms) x h)
  where
    later : (n ≡ x) ⊎ Contains ms x → (n ≡ x) ⊎ Contains (m ∷ ms) x
    later (inl eq) = inl eq
    later (inr there) = inr (behind m ms x there)

    placed : (m ≡ x) ⊎ Contains (put n ms) x → (n ≡ x) ⊎ Contains (m ∷ ms) x
    placed (inl eq) = inr (subst (λ w. Contains (m ∷ ms) w) eq (here m ms))
    placed (inr there) = later (rest x there)

pub members : (n : Name) (ms : List Name) (x : Name) → Contains (put n ms) x
    → (n ≡ x) ⊎ Contains ms x
members n [] x h = head_or_tail n [] x h
members n (m ∷ ms) x h =
    members_if n m ms (bytes_eq n m) (is_name_before n m) x (members n ms) h

above_all : (a n : Name) (ms : List Name) → IsTrue (is_name_before a n) → IsAbove a ms
    → (x : Name) → (n ≡ x) ⊎ Contains ms x → IsTrue (is_name_before a x)
above_all a n ms first rest x (inl eq) = subst (λ w. IsTrue (is_name_before a w)) eq first
above_all a n ms first rest x (inr there) = rest x there

rise_if : (n m : Name) (ms : List Name) (same before : Bool) → bytes_eq n m ≡ same
    → is_name_before n m ≡ before → Rise (m ∷ ms) → Rise (put n ms)
    → Rise (if same then m ∷ ms else if before then n ∷ m ∷ ms else m ∷ put n ms)
rise_if n m ms true before same_is before_is rise rest = rise
rise_if n m ms false true same_is before_is rise rest = (
  λ x there. above_all n m ms before_is
      (λ y also. name_transitive n m y before_is (rise.0 y also)) x
      (head_or_tail m ms x there),
  rise,
)
rise_if n m ms false false same_is before_is rise rest = (
  λ x there. above_all m n ms (name_total n m same_is before_is) rise.0 x
      (members n ms x there),
  rest,
)

put_rises : (n : Name) (ms : List Name) → Rise ms → Rise (put n ms)
put_rises n [] rise = (λ x there. let lt : _ = there.1 in absurd (omega arith), tt)
put_rises n (m ∷ ms) rise =
    rise_if n m ms (bytes_eq n m) (is_name_before n m) refl refl rise (put_rises n ms rise.1)

pub order_rises : (ns : List Name) → Rise (in_order bytes_eq is_name_before ns)
order_rises [] = tt
order_rises (n ∷ ns) = put_rises n (in_order bytes_eq is_name_before ns) (order_rises ns)

zip_first : {X : Type 0} (ns : List Name) (xs : List X) (n : Name) (x : X)
    → Contains (zip ns xs) (n, x) → Contains ns n
zip_first [] xs n x (k, lt, eq) = absurd (omega arith)
zip_first (m ∷ ms) [] n x (k, lt, eq) = absurd (omega arith)
zip_first (m ∷ ms) (y ∷ ys) n x (zero, lt, eq) =
    (0, omega arith, ap (λ p. p.0) eq)
zip_first (m ∷ ms) (y ∷ ys) n x (suc k, lt, eq) =
    behind m ms n (zip_first ms ys n x (k, omega arith, eq))

not_again : (m n : Name) (ms : List Name) → IsAbove m ms → m ≡ n → Contains ms n → ⊥
not_again m n ms above same there =
    let loop : IsTrue (is_name_before m m) =
    subst (λ w. IsTrue (is_name_before m w)) (sym same) (above n there) in
    name_asymmetric m m loop loop

-- what stands beside a name of rising names
beside : {X : Type 0} (ns : List Name) (xs : List X) → Rise ns → (n : Name) (x y : X)
    → Contains (zip ns xs) (n, x) → Contains (zip ns xs) (n, y) → x ≡ y
beside [] xs rise n x y (k, lt, eq) other = absurd (omega arith)
beside (m ∷ ms) [] rise n x y (k, lt, eq) other = absurd (omega arith)
beside (m ∷ ms) (z ∷ zs) rise n x y (zero, lt, eq) (zero, lt', eq') =
    sym (ap (λ p. p.1) eq) ∙ ap (λ p. p.1) eq'
beside (m ∷ ms) (z ∷ zs) rise n x y (zero, lt, eq) (suc k, lt', eq') =
    absurd
    (not_again m n ms rise.0 (ap (λ p. p.0) eq)
    (zip_first ms zs n y (k, omega arith, eq')))
beside (m ∷ ms) (z ∷ zs) rise n x y (suc k, lt, eq) (zero, lt', eq') =
    absurd
    (not_again m n ms rise.0 (ap (λ p. p.0) eq')
    (zip_first ms zs n x (k, omega arith, eq)))
beside (m ∷ ms) (z ∷ zs) rise n x y (suc k, lt, eq) (suc j, lt', eq') =
    beside ms zs rise.1 n x y (k, omega arith, eq) (j, omega arith, eq')

pub beside_location : {X : Type 0} (t : Content) (xs : List X) (n : Name) (x y : X)
    → Contains (zip (locations t) xs) (n, x) → Contains (zip (locations t) xs) (n, y) → x ≡ y
beside_location t xs n x y =
    beside (locations t) xs
    (order_rises
    (flat_map locations_of_entry t.init ++ locations_of_formula t.condition
    ++ flat_map locations_of_observable t.observed))
    n x y

-- ---- Values and states

less_asymmetric : (m n : ℕ) → IsTrue (is_less m n) → IsTrue (is_less n m) → ⊥
less_asymmetric m n first second =
    let below : _ = ltb-true _ _ first in
    let above : _ = ltb-true _ _ second in
    absurd (omega arith)

value_asymmetric : (v w : Value) → IsTrue (is_value_before v w) → IsTrue (is_value_before w v) → ⊥
value_asymmetric (Number m) (Number n) first second = less_asymmetric m n first second
value_asymmetric (Number m) (Address l) first second = true≢false (sym second)
value_asymmetric (Number m) NoValue first second = true≢false (sym second)
value_asymmetric (Address k) (Number n) first second = true≢false (sym first)
value_asymmetric (Address k) (Address l) first second = name_asymmetric k l first second
value_asymmetric (Address k) NoValue first second = true≢false (sym second)
value_asymmetric NoValue (Number n) first second = true≢false (sym first)
value_asymmetric NoValue (Address l) first second = true≢false (sym first)
value_asymmetric NoValue NoValue first second = true≢false (sym first)

not_before_itself : (v w : Value) → v ≡ w → IsTrue (is_value_before v w) → ⊥
not_before_itself v w same before =
    let loop : IsTrue (is_value_before v v) =
    subst (λ u. IsTrue (is_value_before v u)) (sym same) before in
    value_asymmetric v v loop loop

pub state_asymmetric : (s r : List Value) → IsStateBefore s r → IsStateBefore r s → ⊥
state_asymmetric [] r first second = first
state_asymmetric (v ∷ s) [] first second = first
state_asymmetric (v ∷ s) (w ∷ r) (inl before) (inl after) = value_asymmetric v w before after
state_asymmetric (v ∷ s) (w ∷ r) (inl before) (inr after) =
    not_before_itself v w (sym after.0) before
state_asymmetric (v ∷ s) (w ∷ r) (inr before) (inl after) =
    not_before_itself w v (sym before.0) after
state_asymmetric (v ∷ s) (w ∷ r) (inr before) (inr after) =
    state_asymmetric s r before.1 after.1
