use Rattle.std.proofs.Common.{refl, arith}
use Rattle.memo_engine.proofs.PushLemmas.{item_next, pushed_next, pushed_all}
use Rattle.memo_engine.proofs.work.copy_values.Goals as goal

pub loop-value-preserved : goal.loop-value-preserved
loop-value-preserved g c =
    let value = c.value-item.result in
    pushed_next c.loop-value.copies.items c.push.new.self.items _ _ _ value
    (rw c.again.ensures at c.in_ok-push.ensures.items)
    (item_next c.args.values.now c.loop-value.value-index value (omega arith) c.value-item.is)
    c.loop-value.invariant

pub returns : goal.returns
returns g c =
    pushed_all (λ ts. ts) c.loop-value.copies.items c.args.values.now c.loop-value.value-index refl
    (omega arith) c.loop-value.invariant
