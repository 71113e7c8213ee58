use Rattle.memo_engine.proofs.UnmarkLemmas.{fewer_whole}
use Rattle.memo_engine.proofs.marks.settle_touched.Goals as goal

pub returns-clause-matched : goal.returns-clause-matched
returns-clause-matched g c =
    λ valid are. c.mark_touched.ensures.matched valid (c.unsettle_touched.ensures.matched are)

pub returns-clause-marks : goal.returns-clause-marks
returns-clause-marks g c =
    λ valid are but. c.mark_touched.ensures.marks valid (c.unsettle_touched.ensures.matched are)
    (c.unsettle_touched.ensures.marks valid but)

pub returns-clause-whole : goal.returns-clause-whole
returns-clause-whole g c =
    λ valid are claims but whole.
    c.mark_touched.ensures.whole valid (c.unsettle_touched.ensures.matched are) claims
    (c.unsettle_touched.ensures.marks valid but)
    (fewer_whole (g.T.Texts.net c.args.texts.now) c.args.memos.now.entries
    c.unsettle_touched.new.memos.entries claims c.args.waiting.now
    (g.T.Texts.touched c.args.texts.now) c.unsettle_touched.ensures.memos
    c.unsettle_touched.ensures.old whole)
