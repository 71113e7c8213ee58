use Rattle.std.proofs.Common.{arith}
use Rattle.meaning_plain.proofs.Loops.{none_related, none_more, one_related, all_irreflexive}
use Rattle.meaning_plain.proofs.checks.is_irreflexive.Goals as goal

pub loop-pair-init : goal.loop-pair-init
loop-pair-init c = none_related

pub loop-pair-preserved : goal.loop-pair-preserved
loop-pair-preserved c =
    none_more c.args.pairs.now c.loop-pair.pair-index _ (omega arith) c.if-from-to.false
    c.loop-pair.invariant

pub returns-then-from-to : goal.returns-then-from-to
returns-then-from-to c =
    one_related c.args.pairs.now c.loop-pair.pair-index _ (omega arith) c.if-from-to.true

pub returns : goal.returns
returns c =
    all_irreflexive c.args.pairs.now c.loop-pair.pair-index (omega arith) c.loop-pair.invariant
