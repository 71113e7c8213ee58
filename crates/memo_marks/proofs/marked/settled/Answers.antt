use Rattle.std.proofs.Common.{sym, ◌∙◌}
use Rattle.memo_core.proofs.JudgeLemmas.{has_yes, true_false}
use Rattle.memo_engine.proofs.MarkLemmas.{settled_marked}
use Rattle.memo_marks.proofs.marked.settled.Goals as goal

pub returns-then-is_used-clause-no : goal.returns-then-is_used-clause-no
returns-then-is_used-clause-no g c =
    let texts = c.marks.inside.texts.now in
    let net = g.T.Texts.net texts in
    let has = has_yes c.args.node net.used (sym c.is_used.ensures ∙ c.if-is_used.true) in
    rw (← c.marks.view_is) (λ f s. true_false _
    (settled_marked net c.marks.inside.memos.now.entries
    (g.met.T.Texts.used_closed texts c.marks.invariant.0) c.marks.invariant.1 s.0 c.args.node has
    s.1) (sym c.is_marked.ensures ∙ f))
