use Rattle.std.proofs.Common.{ℕ, ◌⊎◌}
use Rattle.text_values.specs.declared.model.Infix.{Infix}
use Rattle.text_values.specs.declared.model.Infix.TheVariants as infixes
use Rattle.meaning.specs.Sets.{Product}
use Rattle.meaning.specs.Cat.{ASet, of_infix}
use Rattle.meaning_plain.specs.Lists.{SetOf}
use Rattle.plain_models.specs.declared.value.Value.TheVariants as values
use Rattle.plain_models.proofs.Joining.{members_meant, pairs_meant, made_by}
use Rattle.plain_models.proofs.value.joined_sets.Goals as goal

pub returns-in_ok-union-in-Union : goal.returns-in_ok-union-in-Union
returns-in_ok-union-in-Union c =
    made_by
    (λ (o : Infix). of_infix o (ASet (SetOf c.args.first.now)) (ASet (SetOf c.args.second.now)))
    c.args.op infixes.Union (values.Set c.in_ok-union-in-Union.field-0) c.in-Union.is
    (members_meant (λ (a : ℕ). SetOf c.args.first.now a ⊎ SetOf c.args.second.now a) c.in_ok-union-in-Union.field-0
    c.in_ok-union-in-Union.ensures)

pub returns-in_ok-intersection-in-Intersection : goal.returns-in_ok-intersection-in-Intersection
returns-in_ok-intersection-in-Intersection c =
    made_by
    (λ (o : Infix). of_infix o (ASet (SetOf c.args.first.now)) (ASet (SetOf c.args.second.now)))
    c.args.op infixes.Intersection (values.Set c.in_ok-intersection-in-Intersection.field-0) c.in-Intersection.is
    (members_meant (λ (a : ℕ). SetOf c.args.first.now a × SetOf c.args.second.now a) c.in_ok-intersection-in-Intersection.field-0
    c.in_ok-intersection-in-Intersection.ensures)

pub returns-in_ok-difference-in-Difference : goal.returns-in_ok-difference-in-Difference
returns-in_ok-difference-in-Difference c =
    made_by
    (λ (o : Infix). of_infix o (ASet (SetOf c.args.first.now)) (ASet (SetOf c.args.second.now)))
    c.args.op infixes.Difference (values.Set c.in_ok-difference-in-Difference.field-0) c.in-Difference.is
    (members_meant (λ (a : ℕ). SetOf c.args.first.now a × (SetOf c.args.second.now a → ⊥)) c.in_ok-difference-in-Difference.field-0
    c.in_ok-difference-in-Difference.ensures)

pub returns-in_ok-product-in-Product : goal.returns-in_ok-product-in-Product
returns-in_ok-product-in-Product c =
    made_by
    (λ (o : Infix). of_infix o (ASet (SetOf c.args.first.now)) (ASet (SetOf c.args.second.now)))
    c.args.op infixes.Product (values.Relation c.in_ok-product-in-Product.field-0) c.in-Product.is
    (pairs_meant (Product (SetOf c.args.first.now) (SetOf c.args.second.now)) c.in_ok-product-in-Product.field-0
    c.in_ok-product-in-Product.ensures)
