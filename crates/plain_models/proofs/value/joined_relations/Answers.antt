use Rattle.text_values.specs.declared.model.Infix.{Infix}
use Rattle.text_values.specs.declared.model.Infix.TheVariants as infixes
use Rattle.meaning.specs.Sets.{Union, Intersection, Difference, Sequence}
use Rattle.meaning.specs.Cat.{ARelation, of_infix}
use Rattle.meaning_plain.specs.Lists.{RelationOf}
use Rattle.plain_models.specs.declared.value.Value.TheVariants as values
use Rattle.plain_models.proofs.Joining.{pairs_meant, made_by}
use Rattle.plain_models.proofs.value.joined_relations.Goals as goal

pub returns-in_ok-union-in-Union : goal.returns-in_ok-union-in-Union
returns-in_ok-union-in-Union c =
    made_by
    (λ (o : Infix). of_infix o (ARelation (RelationOf c.args.first.now)) (ARelation (RelationOf c.args.second.now)))
    c.args.op infixes.Union (values.Relation c.in_ok-union-in-Union.field-0) c.in-Union.is
    (pairs_meant (Union (RelationOf c.args.first.now) (RelationOf c.args.second.now)) c.in_ok-union-in-Union.field-0
    c.in_ok-union-in-Union.ensures)

pub returns-in_ok-intersection-in-Intersection : goal.returns-in_ok-intersection-in-Intersection
returns-in_ok-intersection-in-Intersection c =
    made_by
    (λ (o : Infix). of_infix o (ARelation (RelationOf c.args.first.now)) (ARelation (RelationOf c.args.second.now)))
    c.args.op infixes.Intersection (values.Relation c.in_ok-intersection-in-Intersection.field-0) c.in-Intersection.is
    (pairs_meant (Intersection (RelationOf c.args.first.now) (RelationOf c.args.second.now)) c.in_ok-intersection-in-Intersection.field-0
    c.in_ok-intersection-in-Intersection.ensures)

pub returns-in_ok-difference-in-Difference : goal.returns-in_ok-difference-in-Difference
returns-in_ok-difference-in-Difference c =
    made_by
    (λ (o : Infix). of_infix o (ARelation (RelationOf c.args.first.now)) (ARelation (RelationOf c.args.second.now)))
    c.args.op infixes.Difference (values.Relation c.in_ok-difference-in-Difference.field-0) c.in-Difference.is
    (pairs_meant (Difference (RelationOf c.args.first.now) (RelationOf c.args.second.now)) c.in_ok-difference-in-Difference.field-0
    c.in_ok-difference-in-Difference.ensures)

pub returns-in_ok-sequence-in-Sequence : goal.returns-in_ok-sequence-in-Sequence
returns-in_ok-sequence-in-Sequence c =
    made_by
    (λ (o : Infix). of_infix o (ARelation (RelationOf c.args.first.now)) (ARelation (RelationOf c.args.second.now)))
    c.args.op infixes.Sequence (values.Relation c.in_ok-sequence-in-Sequence.field-0) c.in-Sequence.is
    (pairs_meant (Sequence (RelationOf c.args.first.now) (RelationOf c.args.second.now)) c.in_ok-sequence-in-Sequence.field-0
    c.in_ok-sequence-in-Sequence.ensures)
