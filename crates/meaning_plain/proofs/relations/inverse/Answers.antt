use Rattle.meaning_plain.proofs.Operators.{inverse_made}
use Rattle.meaning_plain.proofs.relations.inverse.Goals as goal

pub returns : goal.returns
returns c =
    inverse_made c.args.pairs.now _ _ c.new-turned.ensures.items c.in_ok-add_inverse.ensures
