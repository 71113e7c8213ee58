use Rattle.std.proofs.Common.{refl, arith}
use Rattle.memo_engine.proofs.PushLemmas.{pushed_next, pushed_all}
use Rattle.memo_engine.proofs.work.present_keys.Goals as goal

pub loop-i-preserved : goal.loop-i-preserved
loop-i-preserved g c =
    pushed_next c.loop-i.keys.items c.push.new.self.items _ _ _ c.input_at.result
    c.in_ok-push.ensures.items c.input_at.ensures.rest c.loop-i.invariant

pub returns : goal.returns
returns g c =
    let keys = (g.T.Texts.net c.args.texts.now).inputs c.args.node in
    pushed_all (λ ks. ks) c.loop-i.keys.items keys c.loop-i.i refl (omega arith) c.loop-i.invariant
