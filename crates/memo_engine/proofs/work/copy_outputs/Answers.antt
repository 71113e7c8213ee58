use Rattle.std.proofs.Common.{refl, arith}
use Rattle.memo_engine.proofs.PushLemmas.{item_next, pushed_next, pushed_all}
use Rattle.memo_engine.proofs.work.copy_outputs.Goals as goal

pub loop-output-preserved : goal.loop-output-preserved
loop-output-preserved g c =
    let output = c.output-item.result in
    pushed_next c.loop-output.copies.items c.push.new.self.items _ _ _ output
    (rw c.again.ensures at c.in_ok-push.ensures.items)
    (item_next c.args.outputs.now c.loop-output.output-index output (omega arith) c.output-item.is)
    c.loop-output.invariant

pub returns : goal.returns
returns g c =
    pushed_all (λ os. os) c.loop-output.copies.items c.args.outputs.now c.loop-output.output-index
    refl (omega arith) c.loop-output.invariant
