use Rattle.memo_engine.proofs.WaitingLemmas.{pushed_has}
use Rattle.memo_engine.proofs.waiting.Waiting.note.Goals as goal

pub returns : goal.returns
returns c =
    λ h.
    (h, pushed_has c.args.self.now.nodes.items c.push.new.self.items c.args.node c.in-Ok.ensures.items)
