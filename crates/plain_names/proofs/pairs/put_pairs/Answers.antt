use Rattle.std.proofs.Common.{arith}
use Rattle.plain_executions.specs.Executions.{AreRelated, execution_as}
use Rattle.plain_names.specs.Related.{IsRelatedBy}
use Rattle.plain_executions.proofs.Pairing.{row_more, row_all}
use Rattle.plain_names.proofs.Relating.{related_within}
use Rattle.plain_names.proofs.pairs.put_pairs.Goals as goal

pub loop-to-preserved : goal.loop-to-preserved
loop-to-preserved c =
    let seen = c.args.shown.now.seen.items in
    let R = IsRelatedBy c.args.name seen (execution_as c.args.execution.now) in
    row_more (AreRelated R seen) c.args.from c.loop-to.to c.args.pairs.now.items
    c.loop-to.pairs.items c.put_pair.new.pairs.items c.loop-to.invariant c.in_ok-put_pair.ensures

pub returns : goal.returns
returns c =
    let seen = c.args.shown.now.seen.items in
    let R = IsRelatedBy c.args.name seen (execution_as c.args.execution.now) in
    row_all (AreRelated R seen) c.args.from c.loop-to.to c.args.pairs.now.items
    c.loop-to.pairs.items
    (λ k is. (related_within R seen c.loop-to.to (omega (arith, c.loop-to-test.false, c.seen_count-to-end.ensures)) c.args.from k is).1)
    c.loop-to.invariant
