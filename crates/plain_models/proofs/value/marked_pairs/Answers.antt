use Rattle.text_values.specs.declared.model.Postfix.{Postfix}
use Rattle.text_values.specs.declared.model.Postfix.TheVariants as postfixes
use Rattle.meaning.specs.Sets.{Transitive, Reflexive, Inverse, Closure}
use Rattle.meaning.specs.Cat.{ARelation, of_postfix}
use Rattle.meaning_plain.specs.Lists.{SetOf, RelationOf}
use Rattle.plain_models.specs.declared.value.Value.TheVariants as values
use Rattle.plain_models.proofs.Joining.{pairs_meant, made_by}
use Rattle.plain_models.proofs.value.marked_pairs.Goals as goal

pub returns-in_ok-transitive-in-Transitive : goal.returns-in_ok-transitive-in-Transitive
returns-in_ok-transitive-in-Transitive c =
    made_by
    (λ (o : Postfix). of_postfix (SetOf c.args.all.now) o (ARelation (RelationOf c.args.pairs.now)))
    c.args.op postfixes.Transitive (values.Relation c.in_ok-transitive-in-Transitive.field-0) c.in-Transitive.is
    (pairs_meant (Transitive (RelationOf c.args.pairs.now)) c.in_ok-transitive-in-Transitive.field-0
    c.in_ok-transitive-in-Transitive.ensures)

pub returns-in_ok-reflexive-in-Reflexive : goal.returns-in_ok-reflexive-in-Reflexive
returns-in_ok-reflexive-in-Reflexive c =
    made_by
    (λ (o : Postfix). of_postfix (SetOf c.args.all.now) o (ARelation (RelationOf c.args.pairs.now)))
    c.args.op postfixes.Reflexive (values.Relation c.in_ok-reflexive-in-Reflexive.field-0) c.in-Reflexive.is
    (pairs_meant (Reflexive (SetOf c.args.all.now) (RelationOf c.args.pairs.now)) c.in_ok-reflexive-in-Reflexive.field-0
    c.in_ok-reflexive-in-Reflexive.ensures)

pub returns-in_ok-inverse-in-Inverse : goal.returns-in_ok-inverse-in-Inverse
returns-in_ok-inverse-in-Inverse c =
    made_by
    (λ (o : Postfix). of_postfix (SetOf c.args.all.now) o (ARelation (RelationOf c.args.pairs.now)))
    c.args.op postfixes.Inverse (values.Relation c.in_ok-inverse-in-Inverse.field-0) c.in-Inverse.is
    (pairs_meant (Inverse (RelationOf c.args.pairs.now)) c.in_ok-inverse-in-Inverse.field-0
    c.in_ok-inverse-in-Inverse.ensures)

pub returns-in_ok-closure-in-Closure : goal.returns-in_ok-closure-in-Closure
returns-in_ok-closure-in-Closure c =
    made_by
    (λ (o : Postfix). of_postfix (SetOf c.args.all.now) o (ARelation (RelationOf c.args.pairs.now)))
    c.args.op postfixes.Closure (values.Relation c.in_ok-closure-in-Closure.field-0) c.in-Closure.is
    (pairs_meant (Closure (SetOf c.args.all.now) (RelationOf c.args.pairs.now)) c.in_ok-closure-in-Closure.field-0
    c.in_ok-closure-in-Closure.ensures)
