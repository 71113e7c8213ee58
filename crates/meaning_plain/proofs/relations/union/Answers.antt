use Rattle.meaning_plain.proofs.Operators.{union_made}
use Rattle.meaning_plain.proofs.relations.union.Goals as goal

pub returns : goal.returns
returns c =
    λ a b.
    union_made c.args.first.now c.args.second.now _ _ _ c.new-pairs.ensures.items
    c.in_ok-add_pairs.ensures c.in_ok-add_pairs-2.ensures (a, b)
