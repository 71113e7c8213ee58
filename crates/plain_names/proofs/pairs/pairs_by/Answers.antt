use Rattle.std.proofs.Common.{arith}
use Rattle.plain_executions.specs.Executions.{AreRelated, execution_as}
use Rattle.plain_names.specs.Related.{IsRelatedBy}
use Rattle.plain_executions.proofs.Pairing.{pairs_more, pairs_all}
use Rattle.plain_names.proofs.Relating.{related_within}
use Rattle.plain_names.proofs.pairs.pairs_by.Goals as goal

pub loop-from-preserved : goal.loop-from-preserved
loop-from-preserved c =
    let seen = c.args.shown.now.seen.items in
    let R = IsRelatedBy c.args.name seen (execution_as c.args.execution.now) in
    pairs_more (AreRelated R seen) c.loop-from.from c.loop-from.pairs.items
    c.put_pairs.new.pairs.items c.loop-from.invariant c.in_ok-put_pairs.ensures

pub returns : goal.returns
returns c =
    let seen = c.args.shown.now.seen.items in
    let R = IsRelatedBy c.args.name seen (execution_as c.args.execution.now) in
    pairs_all (AreRelated R seen) c.loop-from.from c.loop-from.pairs.items
    (λ i j is. (related_within R seen c.loop-from.from (omega (arith, c.loop-from-test.false, c.seen_count-from-end.ensures)) i j is).0)
    c.loop-from.invariant
