use Rattle.std.proofs.Common.{◌∙◌, refl, sym, arith}
use Rattle.std.proofs.lemmas.List.{drop_all}
use Rattle.memo_core.proofs.JudgeLemmas.{has_yes}
use Rattle.memo_engine.proofs.UnmarkLemmas.{unused_passed}
use Rattle.memo_engine.proofs.WaitingLemmas.{whole_passed, unused_idle}
use Rattle.memo_engine.proofs.marks.mark_touched.Goals as goal
use Rattle.memo_engine.proofs.marks.mark_touched.Goals.{then-is_used, else-is_used}

pub loop-i-init : goal.loop-i-init
loop-i-init g c = record {
  same = refl;
  matched = λ valid are. are;
  marks = λ valid are p. p;
  whole = λ valid are claims p w. w;
  room = refl;
}

pub loop-i-preserved : goal.loop-i-preserved
loop-i-preserved g c =
    let net = g.T.Texts.net c.args.texts.now in
    let node = c.touched_at-node.result in
    let i = c.loop-i.invariant in
    elim c.if-is_used.branch [
      | then-is_used w ↦ rw (w.memos-is, w.waiting-is) (record {
        same = w.settle.ensures.memos ∙ i.same;
        matched =
            λ valid are. w.settle.ensures.matched valid (has_yes node net.used
            (sym c.is_used.ensures ∙ w.if-is_used.true)) (i.matched valid are);
        marks =
            λ valid are p. w.settle.ensures.marks valid (has_yes node net.used
            (sym c.is_used.ensures ∙ w.if-is_used.true)) (i.matched valid are) _
            (rw c.touched_at-node.ensures.rest at (i.marks valid are p));
        whole =
            λ valid are claims p h. w.settle.ensures.whole valid (has_yes node net.used
            (sym c.is_used.ensures ∙ w.if-is_used.true)) (i.matched valid are) claims _
            (rw c.touched_at-node.ensures.rest at (i.marks valid are p))
            (rw c.touched_at-node.ensures.rest at (i.whole valid are claims p h));
        room = w.settle.ensures.room ∙ i.room;
      })
      | else-is_used w ↦ rw (w.memos-is, w.waiting-is) (record {
        same = i.same;
        matched = i.matched;
        marks =
            λ valid are p. unused_passed net c.loop-i.memos.entries node _
            (sym c.is_used.ensures ∙ w.if-is_used.false) (rw c.touched_at-node.ensures.rest at
            (i.marks valid are p));
        whole =
            λ valid are claims p h. whole_passed net c.loop-i.memos.entries claims c.loop-i.waiting node
            _ (unused_idle net node (sym c.is_used.ensures ∙ w.if-is_used.false))
            (rw c.touched_at-node.ensures.rest at (i.whole valid are claims p h));
        room = i.room;
      })
    ]

pub returns-clause-matched : goal.returns-clause-matched
returns-clause-matched g c = c.loop-i.invariant.matched

pub returns-clause-marks : goal.returns-clause-marks
returns-clause-marks g c =
    let touched = g.T.Texts.touched c.args.texts.now in
    λ valid are p.
    rw (drop_all c.loop-i.i touched (omega arith)) at (c.loop-i.invariant.marks valid are p)

pub returns-clause-whole : goal.returns-clause-whole
returns-clause-whole g c =
    let touched = g.T.Texts.touched c.args.texts.now in
    λ valid are claims p w.
    rw (drop_all c.loop-i.i touched (omega arith)) at
    (c.loop-i.invariant.whole valid are claims p w)
