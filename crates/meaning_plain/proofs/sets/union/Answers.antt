use Rattle.meaning_plain.proofs.Operators.{union_made}
use Rattle.meaning_plain.proofs.sets.union.Goals as goal

pub returns : goal.returns
returns c =
    union_made c.args.first.now c.args.second.now _ _ _ c.new-set.ensures.items
    c.in_ok-add_members.ensures c.in_ok-add_members-2.ensures
