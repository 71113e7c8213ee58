use Rattle.std.proofs.Common.{[], ◌∷◌, inl, inr, sym}
use Rattle.memo_engine.proofs.MarkLemmas.{marked_idle}
use Rattle.memo_engine.proofs.NeedLemmas.{nothing_unready, work_unready}
use Rattle.memo_engine.proofs.WaitingLemmas.{whole_noted, whole_passed, unready_idle}
use Rattle.memo_engine.proofs.marks.can_mark.Goals as goal

pub returns-in-Nothing-clause-ready : goal.returns-in-Nothing-clause-ready
returns-in-Nothing-clause-ready g c =
    λ are. nothing_unready (g.T.Texts.net c.args.texts.now) c.args.memos.now.entries c.args.node
    (c.in-Nothing.ensures.need are)

pub returns-in-Work-clause-ready : goal.returns-in-Work-clause-ready
returns-in-Work-clause-ready g c =
    λ are. work_unready (g.T.Texts.net c.args.texts.now) c.args.memos.now.entries c.args.node
    (c.in-Work.ensures.need are)

pub returns-in-Mark-clause-ready : goal.returns-in-Mark-clause-ready
returns-in-Mark-clause-ready g c = λ are. sym (c.in-Mark.ensures.need are)

pub returns-in-Nothing-clause-whole : goal.returns-in-Nothing-clause-whole
returns-in-Nothing-clause-whole g c =
    let net = g.T.Texts.net c.args.texts.now in
    let ks = c.args.memos.now.entries in
    let n = c.args.node in
    λ claims rest no are p. whole_passed net ks claims c.args.waiting.now n rest
    (λ used. elim (c.in-Nothing.ensures.need are) [
      | inl marked ↦ marked_idle net ks claims n (n ∷ rest) p marked
      | inr waits ↦ unready_idle net ks claims n waits
    ])

pub returns-in-Work-clause-whole : goal.returns-in-Work-clause-whole
returns-in-Work-clause-whole g c =
    let net = g.T.Texts.net c.args.texts.now in
    λ claims rest no are p. whole_noted net c.args.memos.now.entries claims c.args.waiting.now
    c.note.new.self (c.args.node ∷ []) rest c.note.ensures
