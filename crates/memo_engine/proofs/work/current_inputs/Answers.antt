use Rattle.std.proofs.Common.{refl, arith}
use Rattle.memo_core.specs.Graph.{present_inputs}
use Rattle.memo_core.specs.Views.{as_memos}
use Rattle.memo_engine.proofs.PushLemmas.{pushed_next, pushed_all}
use Rattle.memo_engine.proofs.work.current_inputs.Goals as goal

pub loop-i-preserved : goal.loop-i-preserved
loop-i-preserved g c =
    pushed_next c.loop-i.inputs.items c.push.new.self.items _ _ _
    (record { key = c.input_at-key.result; stamp = c.stamp_at-stamp.result })
    c.in_ok-push.ensures.items
    (rw (c.input_at-key.ensures.rest, c.stamp_at-stamp.ensures) refl) c.loop-i.invariant

pub returns : goal.returns
returns g c =
    let net = g.T.Texts.net c.args.texts.now in
    pushed_all (present_inputs net (as_memos c.args.memos.now.entries)) c.loop-i.inputs.items
    (net.inputs c.args.node) c.loop-i.i refl (omega arith) c.loop-i.invariant
