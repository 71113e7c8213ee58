use Rattle.why_forbidden.proofs.Pairing.{named_pairs}
use Rattle.why_forbidden.proofs.lines.relation_of.Goals as goal

pub returns : goal.returns
returns c =
    λ one is. named_pairs c.args.space.now c.args.value.now c.args.candidate one
    c.relation_at.result c.requires is c.relation_at.ensures
