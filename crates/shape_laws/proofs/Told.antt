-- The naming in a slot, by both definitions.
use Rattle.std.proofs.Common.{ℕ, ◌≡◌, List, [], ◌∷◌, length, true, false, Some, refl, sym, ◌∙◌, inl, inr}
use Rattle.std.specs.Prelude.{◌==◌}
use Rattle.std.proofs.lemmas.Bool.{cases_Bool, eqb-true, eq-eqb, false≢true}
use Rattle.binding_kinds.specs.Value.{Naming}
use Rattle.meaning_items.specs.Slots.{naming_in}
use Rattle.meaning_items.proofs.Growing.{Grows}
use Rattle.binding_laws.proofs.Told.{told, told_below, IsUnder}

pub naming_told : (names : List Naming) (slot : ℕ) → naming_in names slot ≡ told names slot
naming_told [] slot = refl
naming_told (n ∷ ns) slot = elim (cases_Bool (length ns == slot)) [
  | inl e ↦ (
      let turned : (slot == length ns) ≡ true = eq-eqb slot (length ns) (sym (eqb-true (length ns) slot e)) in
      rw (e, turned) refl)
  | inr f ↦ elim (cases_Bool (slot == length ns)) [
    | inl g ↦ absurd (false≢true (sym f ∙ eq-eqb (length ns) slot (sym (eqb-true slot (length ns) g))))
    | inr g ↦ rw (f, g) (naming_told ns slot)
  ]
]

-- names under more names stay in their slots
pub under_grows : (few many : List Naming) → IsUnder few many → Grows few many
under_grows few many under slot n e =
    let here : told few slot ≡ Some n = sym (naming_told few slot) ∙ e in
    naming_told many slot ∙ (under.same slot (told_below few slot n here) ∙ here)
