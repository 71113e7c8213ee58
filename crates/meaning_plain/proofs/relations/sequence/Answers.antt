use Rattle.meaning_plain.proofs.Operators.{sequence_made}
use Rattle.meaning_plain.proofs.relations.sequence.Goals as goal

pub returns : goal.returns
returns c =
    sequence_made c.args.first.now c.args.second.now _ _ c.new-pairs.ensures.items
    c.in_ok-add_sequence.ensures
