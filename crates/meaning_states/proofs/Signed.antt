-- Values of states are in one order by number and by name.
use Rattle.std.proofs.Common.{ℕ, ℤ, pos, negsuc, zero, suc, ◌≡◌, ◌<◌, ◌≤◌, ◌+◌, ◌-◌, ◌%◌, ◌^◌, ◌⊎◌, inl, inr, Bool, true, false, cond, IsTrue, List, [], ◌∷◌, map, length, get_or, AllPairs, nat_lt, nat_eq, int_lt, refl, sym, ap, ap₂, subst, ◌∙◌, arith, true≢false, ltb-true, lt-ltb, mod-eq_of_lt, Ordering, Less, Equal, Greater, nat_cmp, int_cmp, is_eq, is_lt}
use Rattle.std.specs.List.{AllByRecursion}
use Rattle.std.specs.Int.{w32, cast_signed, cast_unsigned}
use Rattle.std.specs.Ordering.{ordering_then}
use Rattle.std.proofs.lemmas.Bool.{cases_lt}
use Rattle.std.proofs.lemmas.Int.{of_z-to_z}
use mir.ValLaws.{to_z_pos, to_z-neg}
use Rattle.outcome_states.specs.declared.answer.FinalValue.{FinalValue}
use Rattle.outcome_states.specs.declared.answer.FinalValue.TheVariants as finals
use Rattle.outcome_states.specs.Order.{value_cmp, state_cmp}
use Rattle.outcome_states.proofs.Orders.{is_state_same}
use Rattle.ppc_lowering.specs.Lowering.{IsNameBefore}
use Rattle.meaning.specs.Names.{Name}
use Rattle.meaning.specs.Machine.{Value, is_less}
use Rattle.meaning.specs.Outcome.{is_value_before, IsStateBefore}
use Rattle.meaning_states.specs.ByName.{value_by_name}

-- ---- numbers

-- the half of the numbers that a number of 32 bits lies in, and what it is as a signed one
pub data HasSign (n : ℕ) : Type 0 where
  plus : n < 2 ^ 31 → cast_signed w32 n ≡ pos n → HasSign n
  minus : (k : ℕ) → k < 2 ^ 31 → suc n + k ≡ 2 ^ 32 → cast_signed w32 n ≡ negsuc k → HasSign n

upper_half : (n k : ℕ) → 2 ^ 31 ≤ n → suc n + k ≡ 2 ^ 32 → HasSign n
upper_half n k upper sum =
    let bound : k < 2 ^ 31 = omega (arith, sum, upper) in
    let back : 2 ^ 32 - suc k ≡ n = omega (arith, sum) in
    minus k bound sum (ap (λ (m : ℕ). cast_signed w32 m) (sym back) ∙ to_z-neg w32 k bound)

sign_of : (n : ℕ) → n < 2 ^ 32 → HasSign n
sign_of n small = elim (cases_lt n (2 ^ 31)) [
  | inl lower ↦ plus lower (to_z_pos w32 n lower)
  | inr upper ↦ upper_half n (2 ^ 32 - suc n) upper (omega (arith, small))
]

less_from : (m n : ℤ) → int_cmp m n ≡ Less → int_lt m n ≡ true
less_from m n h = by (int_lt m n) (int_lt n m) h
  where
    by : (a b : Bool) → cond a Less (cond b Greater Equal) ≡ Less → a ≡ true
    by true b e = refl
    by false true e = absurd (let f : Greater ≡ Less = e in cc)
    by false false e = absurd (let f : Equal ≡ Less = e in cc)

shifted_low : (n : ℕ) → n < 2 ^ 31 → (n + 2 ^ 31) % 2 ^ 32 ≡ n + 2 ^ 31
shifted_low n lower = mod-eq_of_lt (omega (arith, lower))

shifted_high : (n k : ℕ) → k < 2 ^ 31 → suc n + k ≡ 2 ^ 32
    → (n + 2 ^ 31) % 2 ^ 32 + suc k ≡ 2 ^ 31
shifted_high n k upper sum = omega (arith, upper, sum)

-- the order of signed numbers is that of the numbers themselves, half of them first
pub signed_less : (m n : ℕ) → m < 2 ^ 32 → n < 2 ^ 32
    → int_cmp (cast_signed w32 m) (cast_signed w32 n) ≡ Less → IsTrue (is_less m n)
signed_less m n small few h =
    by (sign_of m small) (sign_of n few)
    (less_from (cast_signed w32 m) (cast_signed w32 n) h)
  where
    by : HasSign m → HasSign n → int_lt (cast_signed w32 m) (cast_signed w32 n) ≡ true
        → IsTrue (is_less m n)
    by (plus lower is) (plus under are) less =
        let lt : m < n =
        ltb-true m n (sym (ap₂ (λ (a b : ℤ). int_lt a b) is are) ∙ less) in
        lt-ltb _ _
        (let a : (m + 2 ^ 31) % 2 ^ 32 ≡ m + 2 ^ 31 = shifted_low m lower in
        let b : (n + 2 ^ 31) % 2 ^ 32 ≡ n + 2 ^ 31 = shifted_low n under in
        omega (arith, lt, a, b))
    by (plus lower is) (minus k upper sum are) less =
        absurd
        (true≢false (sym (sym (ap₂ (λ (a b : ℤ). int_lt a b) is are) ∙ less)))
    by (minus j above sum is) (plus under are) less =
        lt-ltb _ _
        (let a : (m + 2 ^ 31) % 2 ^ 32 + suc j ≡ 2 ^ 31 = shifted_high m j above sum in
        let b : (n + 2 ^ 31) % 2 ^ 32 ≡ n + 2 ^ 31 = shifted_low n under in
        omega (arith, a, b))
    by (minus j above sum is) (minus k upper more are) less =
        let lt : k < j =
        ltb-true k j (sym (ap₂ (λ (a b : ℤ). int_lt a b) is are) ∙ less) in
        lt-ltb _ _
        (let a : (m + 2 ^ 31) % 2 ^ 32 + suc j ≡ 2 ^ 31 = shifted_high m j above sum in
        let b : (n + 2 ^ 31) % 2 ^ 32 + suc k ≡ 2 ^ 31 = shifted_high n k upper more in
        omega (arith, lt, a, b))

-- ---- values

-- a value that an execution may end with
pub data IsProper (names : List Name) : FinalValue → Type 0 where
  number : (m : ℕ) → m < 2 ^ 32 → IsProper names (finals.Number (cast_signed w32 m))
  address : (k : ℕ) → k < length names → IsProper names (finals.Address k)
  nothing : IsProper names finals.NoValue

number_less : (m n : ℕ) → nat_cmp m n ≡ Less → m < n
number_less m n h = ltb-true m n (by (nat_lt m n) (nat_eq m n) h)
  where
    by : (a b : Bool) → cond a Less (cond b Equal Greater) ≡ Less → a ≡ true
    by true b e = refl
    by false true e = absurd (let f : Equal ≡ Less = e in cc)
    by false false e = absurd (let f : Greater ≡ Less = e in cc)

module _ (names : List Name) (rising : AllPairs IsNameBefore names) where
  value_before : {v w : FinalValue} → IsProper names v → IsProper names w → value_cmp v w ≡ Less
      → IsTrue (is_value_before (value_by_name names v) (value_by_name names w))
  value_before (number m small) (number n few) h =
      subst (λ (b : ℕ). IsTrue (is_less (cast_unsigned w32 (cast_signed w32 m)) b))
      (sym (of_z-to_z w32 n few))
      (subst (λ (a : ℕ). IsTrue (is_less a n)) (sym (of_z-to_z w32 m small))
      (signed_less m n small few h))
  value_before (number m small) (address l lt) h = refl
  value_before (number m small) nothing h = refl
  value_before (address k lt) (number n few) h = absurd (let f : Greater ≡ Less = h in cc)
  value_before (address k lt) (address l under) h =
      ap is_lt (rising k l [] (number_less k l h) under)
  value_before (address k lt) nothing h = refl
  value_before nothing (number n few) h = absurd (let f : Greater ≡ Less = h in cc)
  value_before nothing (address l lt) h = absurd (let f : Greater ≡ Less = h in cc)
  value_before nothing nothing h = absurd (let f : Equal ≡ Less = h in cc)

  equal_is : (v w : FinalValue) → value_cmp v w ≡ Equal → v ≡ w
  equal_is v w h =
      one (is_state_same (v ∷ []) (w ∷ [])
      (ap (λ (o : Ordering). is_eq (ordering_then o Equal)) h))
    where
      one : v ∷ [] ≡ w ∷ [] → v ≡ w
      one e = ap (λ (vs : List FinalValue). get_or vs 0 v) e

  -- ---- states of one length

  pub state_before : (vs ws : List FinalValue) → AllByRecursion (IsProper names) vs
      → AllByRecursion (IsProper names) ws → length vs ≡ length ws → state_cmp vs ws ≡ Less
      → IsStateBefore (map (value_by_name names) vs) (map (value_by_name names) ws)
  state_before [] [] all both long h = absurd (let f : Equal ≡ Less = h in cc)
  state_before [] (w ∷ ws) all both long h = absurd (omega (arith, long))
  state_before (v ∷ vs) [] all both long h = absurd (omega (arith, long))
  state_before (v ∷ vs) (w ∷ ws) all both long h =
      by (value_cmp v w) refl h
      (λ g. state_before vs ws all.1 both.1 (omega (arith, long)) g)
    where
      by : (o : Ordering) → value_cmp v w ≡ o → ordering_then o (state_cmp vs ws) ≡ Less
          → (state_cmp vs ws ≡ Less
          → IsStateBefore (map (value_by_name names) vs) (map (value_by_name names) ws))
          → IsStateBefore (map (value_by_name names) (v ∷ vs))
          (map (value_by_name names) (w ∷ ws))
      by Less is e rest = inl (value_before all.0 both.0 is)
      by Equal is e rest =
          inr (ap (λ (f : FinalValue). value_by_name names f) (equal_is v w is), rest e)
      by Greater is e rest = absurd (let f : Greater ≡ Less = e in cc)
