use Rattle.meaning_plain.proofs.Operators.{through_made}
use Rattle.meaning_plain.proofs.relations.with_through.Goals as goal

pub returns : goal.returns
returns c =
    through_made c.args.k c.args.pairs.now _ _ c.in_ok-more.ensures.items
    c.in_ok-add_all_through.ensures
