use Rattle.meaning_plain.proofs.Operators.{identity_made}
use Rattle.meaning_plain.proofs.relations.identity.Goals as goal

pub returns : goal.returns
returns c =
    identity_made c.args.set.now _ _ c.new-pairs.ensures.items c.in_ok-add_itself.ensures
