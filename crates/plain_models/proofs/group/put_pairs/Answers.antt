use Rattle.std.proofs.Common.{refl, arith}
use Rattle.plain_models.proofs.Stepping.{extends_none, extends_next, extends_whole}
use Rattle.plain_models.proofs.group.put_pairs.Goals as goal

pub loop-pair-init : goal.loop-pair-init
loop-pair-init c = extends_none c.args.pairs.now.items c.args.pairs.now.items refl

pub loop-pair-preserved : goal.loop-pair-preserved
loop-pair-preserved c =
    extends_next c.args.pairs.now.items c.loop-pair.pairs.items _ c.args.more.now
    c.loop-pair.pair-index _ (omega arith) c.loop-pair.invariant c.in_ok-put_pair.ensures

pub returns : goal.returns
returns c =
    extends_whole c.args.pairs.now.items _ c.args.more.now c.loop-pair.pair-index (omega arith)
    c.loop-pair.invariant
