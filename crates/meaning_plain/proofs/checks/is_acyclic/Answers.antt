use Rattle.meaning_plain.proofs.Loops.{acyclic_made}
use Rattle.meaning_plain.proofs.checks.is_acyclic.Goals as goal

pub returns : goal.returns
returns c =
    acyclic_made c.args.pairs.now c.in_ok-paths.paths.items c.deref.result.now
    c.is_irreflexive-answer.result c.deref.ensures.value c.in_ok-paths.ensures
    c.is_irreflexive-answer.ensures
