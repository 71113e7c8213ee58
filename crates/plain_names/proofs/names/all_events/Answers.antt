use Rattle.std.proofs.Common.{arith, length}
use Rattle.plain_names.proofs.Naming.{all_begin, all_more, all_whole}
use Rattle.plain_names.proofs.names.all_events.Goals as goal

pub loop-index-init : goal.loop-index-init
loop-index-init c = all_begin c.new-all.result.items c.new-all.ensures.items

pub loop-index-preserved : goal.loop-index-preserved
loop-index-preserved c =
    all_more c.loop-index.index c.loop-index.all.items c.push.new.self.items c.loop-index.invariant
    c.in_ok-push.ensures.items

pub returns : goal.returns
returns c =
    all_whole c.loop-index.index (length c.args.shown.now.seen.items) c.loop-index.all.items (omega (arith, c.loop-index.auto.index-end, c.seen_count-index-end.ensures))
    (omega (arith, c.loop-index-test.false, c.seen_count-index-end.ensures)) c.loop-index.invariant
