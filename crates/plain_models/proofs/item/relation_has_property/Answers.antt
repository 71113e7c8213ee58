use Rattle.std.proofs.Common.{◌↔◌, IsTrue, Bool, IfOk, sym, subst}
use Rattle.text_values.specs.declared.model.CheckWord.{CheckWord}
use Rattle.meaning.specs.Cat.{ARelation, HasProperty}
use Rattle.meaning_plain.specs.Lists.{RelationOf}
use Rattle.plain_models.proofs.Checking.{relation_empty}
use Rattle.plain_models.proofs.item.relation_has_property.Goals as goal

pub returns-in-Acyclic : goal.returns-in-Acyclic
returns-in-Acyclic c =
    subst
    (λ (w : CheckWord). IfOk c.is_acyclic.result (λ (b : Bool). IsTrue b ↔ HasProperty w (ARelation (RelationOf c.args.pairs.now))))
    (sym c.in-Acyclic.is) c.is_acyclic.ensures

pub returns-in-Irreflexive : goal.returns-in-Irreflexive
returns-in-Irreflexive c =
    subst
    (λ (w : CheckWord). IsTrue c.is_irreflexive.result ↔ HasProperty w (ARelation (RelationOf c.args.pairs.now)))
    (sym c.in-Irreflexive.is) c.is_irreflexive.ensures

pub returns-in-Empty : goal.returns-in-Empty
returns-in-Empty c =
    subst
    (λ (w : CheckWord). IsTrue c.is_empty.result ↔ HasProperty w (ARelation (RelationOf c.args.pairs.now)))
    (sym c.in-Empty.is) (relation_empty c.args.pairs.now c.is_empty.result c.is_empty.ensures)
