use Rattle.std.proofs.Common.{[]}
use Rattle.memo_core.specs.Laws.{meaning}
use Rattle.cells.proofs.SameEvents.{answered_same}
use Rattle.cells.proofs.bench.Bench.run_events.Goals as goal

pub returns-clause-answered : goal.returns-clause-answered
returns-clause-answered g c =
    let t = g.T.Texts in
    let laws = g.met.T.CellTexts in
    let all = c.answer_all.ensures in (
      all.0,
      answered_same (meaning t.net t.is_valid t.since t.makes t.keeps t.edited t.last) t.refuses
          t.last g.T.CellTexts.same_edit (λ x u e f k s h. laws.edited_same x u e f k s h)
          (λ x e f b k s h. laws.refused_same x e f b k s h)
          c.args.self.now c.answer_all.new.self [] all.0 c.in_ok-copies.copies.items
          c.args.events.now c.answer_all.new.replies.items c.in_ok-copies.ensures all.1,
    )
