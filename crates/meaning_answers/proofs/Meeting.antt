-- The checks before an item are met where each of them is.
use Rattle.std.proofs.Common.{ℕ, zero, suc, ◌≡◌, ◌<◌, List, [], ◌∷◌, length, take, Some, None, refl, ap, sym, subst, arith}
use Rattle.std.specs.Prelude.{slice_get}
use Rattle.std.proofs.lemmas.Option.{same_Some}
use Rattle.text_values.specs.ModelValue.{Clause}
use Rattle.meaning.specs.Sets.{Set}
use Rattle.meaning.specs.Cat.{Names, names_after, IsItemMet, AreMet}
use Rattle.meaning_items.specs.Behind.{bound_behind}

module _ {E : Type 0} (all : Set E) where
  abbrev pub MetAt : Names E → List Clause → ℕ → Clause → Type 0
  MetAt N cs j c = IsItemMet all (bound_behind all N (take j cs)) c

  pub all_met : (N : Names E) (cs : List Clause) (i : ℕ)
      → ((j : ℕ) (c : Clause) → j < i → slice_get cs j ≡ Some c → MetAt N cs j c)
      → AreMet all N (take i cs)
  all_met N cs zero each = tt
  all_met N [] (suc i) each = tt
  all_met N (c ∷ cs) (suc i) each = (
    each 0 c (omega arith) refl,
    all_met (names_after all N c) cs i
        (λ j d lt e. each (suc j) d (omega (arith, lt)) e),
  )

  pub one_met : (N : Names E) (cs : List Clause) → AreMet all N cs → (i : ℕ) (c : Clause)
      → slice_get cs i ≡ Some c → MetAt N cs i c
  one_met N [] met i c e = absurd (let f : None ≡ Some c = e in cc)
  one_met N (d ∷ cs) met zero c e = subst (λ (x : Clause). IsItemMet all N x) (same_Some _ _ e) met.0
  one_met N (d ∷ cs) met (suc i) c e = one_met (names_after all N d) cs met.1 i c e
