-- Values that an execution ends with, by number and by name.
use Rattle.std.proofs.Common.{ℕ, ℤ, zero, suc, ◌≡◌, ◌<◌, ◌^◌, ◌↔◌, Bool, true, false, nat_eq, IsTrue, List, [], length, get_or, Option, Some, None, option_map, refl, sym, ap, subst, ◌∙◌, arith, eqb-true, eq-eqb, true≢false, FitsSigned}
use Rattle.std.specs.Int.{w32, cast_signed, cast_unsigned}
use Rattle.std.specs.Ordering.{int_eq}
use Rattle.std.proofs.lemmas.Int.{of_z-to_z, to_z-of_z}
use Rattle.std.proofs.lemmas.Bool.Decides.{Decides-int_eq}
use Rattle.std.proofs.lemmas.List.Quantifiers.{position-Some}
use Rattle.std.proofs.lemmas.Slice.Eq.{bytes_eq-Decides}
use Rattle.text_values.specs.declared.test.Value as written
use Rattle.text_values.specs.declared.test.Value.TheVariants as texts
use Rattle.thread_runs.specs.declared.value.Value as numbered_value
use Rattle.thread_runs.specs.declared.value.Value.TheVariants as numbers
use Rattle.outcome_states.specs.declared.answer.FinalValue.{FinalValue}
use Rattle.outcome_states.specs.declared.answer.FinalValue.TheVariants as finals
use Rattle.outcome_states.specs.Final.{value_shown}
use Rattle.outcome_states.specs.Meaning.{is_value, known_value, location_of}
use Rattle.outcome_states.specs.Names.{is_name}
use Rattle.meaning.specs.Names.{Name}
use Rattle.meaning.specs.Machine.{Value, Number, Address, NoValue, value_of, word}
use Rattle.meaning_executions.specs.Values as values
use Rattle.meaning_executions.specs.Values.{IsSameValue, AreOneToOne}
use Rattle.meaning_laws.specs.Words.{IsWrittenWord}

-- ---- what is the same as a value by number

same_number : {m n : ℕ} → numbers.Number m ≡ numbers.Number n → m ≡ n
same_number e = cc

same_address : {k l : ℕ} → numbers.Address k ≡ numbers.Address l → k ≡ l
same_address e = cc

one_number : {m n : ℕ} → Number m ≡ Number n → m ≡ n
one_number e = cc

same_final : {v w : FinalValue} → Some v ≡ Some w → v ≡ w
same_final e = cc

module _ (names : List Name) where
  pub number_is : {v : numbered_value.Value} {w : Value} → IsSameValue names v w → (m : ℕ)
      → v ≡ numbers.Number m → w ≡ Number m
  number_is (values.number n) m e = ap (λ (k : ℕ). Number k) (same_number e)
  number_is (values.address k lt) m e = absurd cc
  number_is values.nothing m e = absurd cc

  pub address_is : {v : numbered_value.Value} {w : Value} → IsSameValue names v w → (k : ℕ)
      → v ≡ numbers.Address k → (k < length names) × (w ≡ Address (get_or names k []))
  address_is (values.number n) k e = absurd cc
  address_is (values.address l lt) k e =
      let same : l ≡ k = same_address e in (
        subst (λ (i : ℕ). i < length names) same lt,
        ap (λ (i : ℕ). Address (get_or names i [])) same,
      )
  address_is values.nothing k e = absurd cc

  pub nothing_is : {v : numbered_value.Value} {w : Value} → IsSameValue names v w
      → v ≡ numbers.NoValue → w ≡ NoValue
  nothing_is (values.number n) e = absurd cc
  nothing_is (values.address l lt) e = absurd cc
  nothing_is values.nothing e = refl

  -- ---- a value that the text writes

  number_held : (m : ℕ) → m < 2 ^ 32 → (n : ℤ) → FitsSigned w32 n
      → IsTrue (int_eq (cast_signed w32 m) n)
      ↔ IsSameValue names (numbers.Number m) (word n)
  number_held m small n fits = (
    λ h.
        let e : cast_signed w32 m ≡ n = (Decides-int_eq (cast_signed w32 m) n).0 h in
        let is : m ≡ cast_unsigned w32 n =
        sym (of_z-to_z w32 m small) ∙ ap (λ (z : ℤ). cast_unsigned w32 z) e in
        subst (λ (k : ℕ). IsSameValue names (numbers.Number m) (Number k)) is (values.number m),
    λ h.
        let is : cast_unsigned w32 n ≡ m = one_number (number_is h m refl) in
        (Decides-int_eq (cast_signed w32 m) n).1
        (ap (λ (k : ℕ). cast_signed w32 k) (sym is) ∙ to_z-of_z w32 n fits),
  )

  located : (l : Name) (i : ℕ) → location_of names l ≡ Some i
      → (i < length names) × (get_or names i [] ≡ l)
  located l i found =
      let there : _ = position-Some (is_name l) names i [] found in
      (there.0, sym ((bytes_eq-Decides l (get_or names i [])).0 there.1))

  address_held : AreOneToOne names → (j : ℕ) (l : Name) (i : ℕ) → location_of names l ≡ Some i
      → IsTrue (nat_eq j i) ↔ IsSameValue names (numbers.Address j) (Address l)
  address_held one j l i found =
      let there : _ = located l i found in
      let own : IsSameValue names (numbers.Address i) (Address l) =
      subst (λ (n : Name). IsSameValue names (numbers.Address i) (Address n)) there.1
      (values.address i there.0) in (
        λ h. subst (λ (k : ℕ). IsSameValue names (numbers.Address k) (Address l))
            (sym (eqb-true j i h)) own,
        λ h. eq-eqb j i
            (same_address
            (one.by_number (numbers.Address j) (numbers.Address i) (Address l) h own)),
      )

  no_address_number : (m : ℕ) (l : Name) → IsSameValue names (numbers.Number m) (Address l) → ⊥
  no_address_number m l h = let e : Address l ≡ Number m = number_is h m refl in cc

  no_number_address : (k n : ℕ) → IsSameValue names (numbers.Address k) (Number n) → ⊥
  no_number_address k n h =
      let e : Number n ≡ Address (get_or names k []) = (address_is h k refl).1 in cc

  no_number_nothing : (n : ℕ) → IsSameValue names numbers.NoValue (Number n) → ⊥
  no_number_nothing n h = let e : Number n ≡ NoValue = nothing_is h refl in cc

  no_address_nothing : (l : Name) → IsSameValue names numbers.NoValue (Address l) → ⊥
  no_address_nothing l h = let e : Address l ≡ NoValue = nothing_is h refl in cc

  never : (P : Type 0) → (P → ⊥) → IsTrue false ↔ P
  never P refuted = (λ h. absurd (true≢false (sym h)), λ p. absurd (refuted p))

  -- a value is one that the text writes, by number and by name
  abbrev IsHeld : numbered_value.Value → written.Value → FinalValue → Type 0
  IsHeld v x k = IsTrue (is_value (value_shown v) k) ↔ IsSameValue names v (value_of x)

  text_number : (v : numbered_value.Value)
      → ((m : ℕ) → v ≡ numbers.Number m → m < 2 ^ 32)
      → (n : ℤ) → FitsSigned w32 n → IsHeld v (texts.Number n) (finals.Number n)
  text_number (numbers.Number m) small n fits = number_held m (small m refl) n fits
  text_number (numbers.Address j) small n fits =
      never (IsSameValue names (numbers.Address j) (word n)) (no_number_address j _)
  text_number numbers.NoValue small n fits =
      never (IsSameValue names numbers.NoValue (word n)) (no_number_nothing _)

  text_address : AreOneToOne names → (v : numbered_value.Value) (l : Name) (i : ℕ)
      → location_of names l ≡ Some i → IsHeld v (texts.Address l) (finals.Address i)
  text_address one (numbers.Number m) l i found =
      never (IsSameValue names (numbers.Number m) (Address l)) (no_address_number m l)
  text_address one (numbers.Address j) l i found = address_held one j l i found
  text_address one numbers.NoValue l i found =
      never (IsSameValue names numbers.NoValue (Address l)) (no_address_nothing l)

  pub held_alike : AreOneToOne names → (v : numbered_value.Value)
      → ((m : ℕ) → v ≡ numbers.Number m → m < 2 ^ 32)
      → (x : written.Value) → IsWrittenWord x → (k : FinalValue) → known_value names x ≡ Some k
      → IsHeld v x k
  held_alike one v small (texts.Number n) fits k known =
      subst (λ (f : FinalValue). IsHeld v (texts.Number n) f) (same_final known)
      (text_number v small n fits)
  held_alike one v small (texts.Address l) fits k known = by (location_of names l) refl known
    where
      by : (i : Option ℕ) → location_of names l ≡ i → option_map finals.Address i ≡ Some k
          → IsHeld v (texts.Address l) k
      by None found h = absurd (let f : None ≡ Some k = h in cc)
      by (Some i) found h =
          subst (λ (f : FinalValue). IsHeld v (texts.Address l) f) (same_final h)
          (text_address one v l i found)
