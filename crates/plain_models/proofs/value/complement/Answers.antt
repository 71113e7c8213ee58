use Rattle.std.proofs.Common.{ℕ}
use Rattle.meaning.specs.Sets.{Complement}
use Rattle.meaning.specs.Cat.{ASet, ARelation, of_complement}
use Rattle.meaning_plain.specs.Lists.{SetOf, RelationOf}
use Rattle.plain_models.specs.declared.value.Value.TheVariants as values
use Rattle.plain_models.specs.Values.{meaning_as}
use Rattle.plain_models.proofs.Joining.{members_meant, pairs_meant, set_as, relation_as, made_of_one}
use Rattle.plain_models.proofs.value.complement.Goals as goal

pub returns-in_ok-difference-in-Set : goal.returns-in_ok-difference-in-Set
returns-in_ok-difference-in-Set c =
    made_of_one (of_complement (SetOf c.args.all.now)) (ASet (SetOf c.deref.result.now))
    (meaning_as c.args.operand.now) (values.Set c.in_ok-difference-in-Set.field-0)
    (set_as c.args.operand.now c.in-Set.events c.deref.result.now c.in-Set.is c.deref.ensures.value)
    (members_meant (λ (a : ℕ). SetOf c.args.all.now a × (SetOf c.deref.result.now a → ⊥))
    c.in_ok-difference-in-Set.field-0 c.in_ok-difference-in-Set.ensures)

pub returns-in_ok-complement-in-Relation : goal.returns-in_ok-complement-in-Relation
returns-in_ok-complement-in-Relation c =
    made_of_one (of_complement (SetOf c.args.all.now))
    (ARelation (RelationOf c.deref-in-Relation.result.now)) (meaning_as c.args.operand.now)
    (values.Relation c.in_ok-complement-in-Relation.field-0)
    (relation_as c.args.operand.now c.in-Relation.pairs c.deref-in-Relation.result.now c.in-Relation.is
    c.deref-in-Relation.ensures.value)
    (pairs_meant (Complement (SetOf c.args.all.now) (RelationOf c.deref-in-Relation.result.now))
    c.in_ok-complement-in-Relation.field-0 c.in_ok-complement-in-Relation.ensures)
