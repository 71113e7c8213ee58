-- The text of a state is that of its values by name.
use Rattle.std.proofs.Common.{ℕ, ◌≡◌, List, [], ◌∷◌, ◌++◌, map, codes, zip, refl, sym, ap, ap₂}
use Rattle.std.specs.List.{AllByRecursion}
use Rattle.std.specs.Fmt.{signed_decimal}
use Rattle.std.specs.Int.{w32, cast_signed}
use Rattle.std.proofs.lemmas.Int.{of_z-to_z}
use Rattle.text_values.specs.Joined.{joined}
use Rattle.litmus_printing.specs.Printing.{place_text}
use Rattle.outcome_states.specs.declared.answer.FinalValue.{FinalValue}
use Rattle.outcome_states.specs.declared.observable.Observable.{Observable}
use Rattle.outcome_states.specs.Text as program
use Rattle.outcome_states.specs.Text.{place_of}
use Rattle.meaning.specs.Names.{Name}
use Rattle.meaning_states.specs.ByName.{value_by_name}
use Rattle.meaning_states.specs.Texts.{value_text, held_text, named_state_text}
use Rattle.meaning_states.proofs.Signed.{IsProper, number, address, nothing}

module _ (names : List Name) where
  same_value : {v : FinalValue} → IsProper names v
      → program.value_text names v ≡ value_text (value_by_name names v)
  same_value (number m small) =
      ap (λ (k : ℕ). signed_decimal (cast_signed w32 k)) (sym (of_z-to_z w32 m small))
  same_value (address k lt) = refl
  same_value nothing = refl

  same_held : (o : Observable) (v : FinalValue) → IsProper names v
      → program.held_text names o v ≡ held_text (place_of names o) (value_by_name names v)
  same_held o v proper =
      ap
      (λ (t : List ℕ). place_text (place_of names o) ++ (codes "=" ++ (t ++ codes ";")))
      (same_value proper)

  same_pieces : (os : List Observable) (vs : List FinalValue)
      → AllByRecursion (IsProper names) vs
      → map (λ x. program.held_text names x.0 x.1) (zip os vs)
      ≡ map (λ x. held_text x.0 x.1)
      (zip (map (place_of names) os) (map (value_by_name names) vs))
  same_pieces [] vs all = refl
  same_pieces (o ∷ os) [] all = refl
  same_pieces (o ∷ os) (v ∷ vs) all =
      ap₂ (λ (t : List ℕ) (ts : List (List ℕ)). t ∷ ts) (same_held o v all.0)
      (same_pieces os vs all.1)

  pub same_text : (os : List Observable) (vs : List FinalValue)
      → AllByRecursion (IsProper names) vs
      → program.state_text names os vs
      ≡ named_state_text (map (place_of names) os) (map (value_by_name names) vs)
  same_text os vs all = ap (λ (ts : List (List ℕ)). joined (codes " ") ts) (same_pieces os vs all)
