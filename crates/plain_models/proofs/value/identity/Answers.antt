use Rattle.meaning.specs.Sets.{Identity}
use Rattle.meaning.specs.Cat.{ASet, of_identity}
use Rattle.meaning_plain.specs.Lists.{SetOf}
use Rattle.plain_models.specs.declared.value.Value.TheVariants as values
use Rattle.plain_models.specs.Values.{meaning_as}
use Rattle.plain_models.proofs.Joining.{pairs_meant, set_as, made_of_one}
use Rattle.plain_models.proofs.value.identity.Goals as goal

pub returns-in_ok-identity-in-Set : goal.returns-in_ok-identity-in-Set
returns-in_ok-identity-in-Set c =
    made_of_one of_identity (ASet (SetOf c.deref.result.now)) (meaning_as c.args.operand.now)
    (values.Relation c.in_ok-identity-in-Set.field-0)
    (set_as c.args.operand.now c.in-Set.events c.deref.result.now c.in-Set.is c.deref.ensures.value)
    (pairs_meant (Identity (SetOf c.deref.result.now)) c.in_ok-identity-in-Set.field-0
    c.in_ok-identity-in-Set.ensures)
