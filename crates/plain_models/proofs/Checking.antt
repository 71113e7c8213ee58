-- Checks of values, and of what the values stand for.
use Rattle.std.proofs.Common.{◌≡◌, ◌↔◌, ◌==◌, ℕ, List, [], ◌∷◌, length, Bool, IsTrue, refl, sym, ap, ◌∙◌, arith}
use Rattle.std.proofs.lemmas.Bool.{eqb-true}
use Rattle.text_values.specs.declared.model.Item.{Item}
use Rattle.text_values.specs.ModelValue.{Checked}
use Rattle.meaning.specs.Sets.{Set, IsEmpty}
use Rattle.meaning.specs.Names.{Name}
use Rattle.meaning.specs.Cat.{Meaning, with_arguments, HasProperty, NegatedIf}
use Rattle.meaning_plain.specs.Lists.{SetOf, RelationOf}
use Rattle.meaning_plain.proofs.Growing.{nothing_there}
use Rattle.plain_models.specs.declared.value.Value.{Value}
use Rattle.plain_models.specs.declared.scope.Named.{Named}
use Rattle.plain_models.specs.Values.{meaning_as, IsEvaluatedTo}
use Rattle.plain_models.specs.Scopes.{meanings_as, with_named, names_in}
use Rattle.plain_models.proofs.Behind.{negated_alike, property_alike}

pub relation_empty : (ps : List (ℕ × ℕ)) (b : Bool) → b ≡ (length ps == 0)
    → IsTrue b ↔ IsEmpty (RelationOf ps)
relation_empty [] b e = ((λ is x y h. nothing_there (x, y) h), (λ h. e))
relation_empty (p ∷ ps) b e = (
  (λ is. absurd (let same : length (p ∷ ps) ≡ 0 = eqb-true (length (p ∷ ps)) 0 (sym e ∙ is) in omega arith)),
  (λ h. absurd (h p.0 p.1 (0, omega arith, refl))),
)

pub set_empty : (xs : List ℕ) (b : Bool) → b ≡ (length xs == 0)
    → IsTrue b ↔ ((a : ℕ) → SetOf xs a → ⊥)
set_empty [] b e = ((λ is x h. nothing_there x h), (λ h. e))
set_empty (x ∷ xs) b e = (
  (λ is. absurd (let same : length (x ∷ xs) ≡ 0 = eqb-true (length (x ∷ xs)) 0 (sym e ∙ is) in omega arith)),
  (λ h. absurd (h x (0, omega arith, refl))),
)

-- no name stands before the earlier ones
pub no_names : (all : Set ℕ) (is : List Item) (outer : List Named) (names : List Name)
    (vs : List Value) → names ≡ [] → names_in all is outer names vs ≡ with_named all is outer []
no_names all is outer names vs e =
    ap (λ (ns : List Name). with_arguments ns (meanings_as vs) (with_named all is outer [])) e

-- a check of a value is one of what it stands for
pub met_from : (check : Checked) (m : Meaning ℕ) (v : Value) (holds met : Bool) → IsEvaluatedTo m v
    → IsTrue holds ↔ HasProperty check.word (meaning_as v)
    → IsTrue met ↔ NegatedIf check.negated (IsTrue holds)
    → IsTrue met ↔ NegatedIf check.negated (HasProperty check.word m)
met_from check m v holds met meant has is = (
  (λ h. negated_alike check.negated (IsTrue holds) (HasProperty check.word m) to back (is.0 h)),
  (λ h. is.1 (negated_alike check.negated (HasProperty check.word m) (IsTrue holds) back to h)),
)
  where
    to : IsTrue holds → HasProperty check.word m
    to h = property_alike check.word (meaning_as v) m meant (has.0 h)

    back : HasProperty check.word m → IsTrue holds
    back h = has.1 (property_alike check.word m (meaning_as v) (meant.1, meant.0) h)
