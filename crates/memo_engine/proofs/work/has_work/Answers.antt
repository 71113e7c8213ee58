use Rattle.std.proofs.Common.{◌∙◌, [], sym}
use Rattle.memo_engine.proofs.MarkLemmas.{marked_idle}
use Rattle.memo_engine.proofs.work.has_work.Goals as goal

pub returns-then-is_marked : goal.returns-then-is_marked
returns-then-is_marked g c =
    sym (marked_idle (g.T.Texts.net c.args.texts.now) c.args.memos.now.entries
    c.args.claims.now.entries c.args.node [] c.requires
    (sym c.is_marked.ensures ∙ c.if-is_marked.true))
