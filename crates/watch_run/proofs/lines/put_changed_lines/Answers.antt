use Rattle.std.proofs.Common.{arith}
use Rattle.watch_run.proofs.Steps.{line_gained}
use Rattle.watch_run.proofs.lines.put_changed_lines.Goals as goal

pub loop-index-preserved : goal.loop-index-preserved
loop-index-preserved c =
    line_gained c.args.lasts.now c.args.nows.now c.loop-index.index c.index-nows-index.result
    c.args.text.now.items c.last_line.result.now c.deref.result.now c.loop-index.text.items
    c.put_changed_line.new.text.items
    (omega arith) c.index-nows-index.is c.last_line.ensures c.deref.ensures.value
    c.loop-index.invariant c.in_ok-put_changed_line.ensures
