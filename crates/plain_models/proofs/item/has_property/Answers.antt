use Rattle.std.proofs.Common.{◌↔◌, ℕ, IsTrue, Bool, IfOk, subst}
use Rattle.meaning.specs.Cat.{Meaning, HasProperty}
use Rattle.plain_models.proofs.Joining.{relation_as}
use Rattle.plain_models.proofs.item.has_property.Goals as goal

pub returns-in-Relation : goal.returns-in-Relation
returns-in-Relation c =
    subst
    (λ (m : Meaning ℕ). IfOk c.relation_has_property.result (λ (b : Bool). IsTrue b ↔ HasProperty c.args.word m))
    (relation_as c.args.value.now c.in-Relation.pairs c.deref-in-Relation.result.now c.in-Relation.is
    c.deref-in-Relation.ensures.value) c.relation_has_property.ensures
