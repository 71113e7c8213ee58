-- Predefined names are told apart: by `==`, and by the numbers of their variants.
use Rattle.std.proofs.Common.{◌≡◌, ◌⊎◌, ◌∙◌, inl, inr, Bool, true, false, sym, ap}
use Rattle.std.specs.Bool.{Decides}
use Rattle.std.proofs.lemmas.Bool.{cases_eq}
use denote.Enum.Bare.{sameb, same_true, same_false, true_same, tag_one}
use denote.Enum.Declared.{tag_of}
use Rattle.predefined_names.specs.contracts.predefined.Predefined.{the_type}
use Rattle.predefined_names.specs.declared.predefined.Predefined.{Predefined}

pub equal_names : (x y : Predefined) (answer : Bool) → answer ≡ sameb the_type x y → answer ≡ true
    → x ≡ y
equal_names x y answer is holds = same_true the_type tt x y (sym is ∙ holds)

pub unequal_names : (x y : Predefined) (answer : Bool) → answer ≡ sameb the_type x y
    → answer ≡ false → x ≡ y → ⊥
unequal_names x y answer is fails = same_false the_type x y (sym is ∙ fails)

pub names_Decides : (x y : Predefined) → Decides (sameb the_type x y) (x ≡ y)
names_Decides x y = (same_true the_type tt x y, true_same the_type x y)

pub same_name : (x y : Predefined) → (x ≡ y) ⊎ (x ≡ y → ⊥)
same_name x y = elim (cases_eq (tag_of the_type x) (tag_of the_type y)) [
  | inl e ↦ inl (tag_one the_type tt x y e)
  | inr other ↦ inr (λ e. other (ap (tag_of the_type) e))
]
