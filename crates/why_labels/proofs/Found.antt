-- From the first name of a union to the innermost.
use Rattle.std.proofs.Common.{◌≡◌, List, [], Some, None, refl, arith}
use Rattle.binding_kinds.specs.declared.scope.Input.{Input}
use Rattle.binding_graph.specs.declared.resolved.ResolvedItem.{ResolvedItem}
use Rattle.predefined_names.specs.declared.predefined.Predefined.{Predefined}
use Rattle.why_labels.specs.declared.unions.ModelName.{ModelName}
use Rattle.why_labels.specs.declared.unions.ModelName.TheVariants as names
use Rattle.why_labels.specs.Labels.{IsFirstOf, IsInnermost, NoName, Itself, Inside}
use Rattle.why_labels.specs.Operands.{AreOperandsOf}

module _ (items : List ResolvedItem) (P : ModelName → Type 0) (operands : List ModelName)
    (name : ModelName) (first : IsFirstOf P operands name) where
  pub language_name : (p : Predefined) → name ≡ names.Predefined p
      → IsInnermost items P operands (Some name)
  language_name p is =
      Itself operands [] name first (rw is refl)
      (NoName [] (λ j lt d h. absurd (omega (arith, lt))))

  pub name_itself : (input : Input) (inside : List ModelName) → name ≡ names.Bound input
      → AreOperandsOf items (names.Bound input) inside → IsInnermost items P inside None
      → IsInnermost items P operands (Some name)
  name_itself input inside is are none = Itself operands inside name first (rw is are) none

  pub name_inside : (input : Input) (inside : List ModelName) (inner : ModelName)
      → name ≡ names.Bound input → AreOperandsOf items (names.Bound input) inside
      → IsInnermost items P inside (Some inner) → IsInnermost items P operands (Some inner)
  name_inside input inside inner is are more =
      Inside operands inside name inner first (rw is are) more
