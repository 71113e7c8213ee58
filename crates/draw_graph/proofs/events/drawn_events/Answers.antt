use Rattle.std.proofs.Common.{◌++◌, sym, ◌∙◌, arith}
use Rattle.std.proofs.lemmas.Bool.{false≢true}
use Rattle.draw_graph.proofs.Growing.{grown, kept, none_below, all_drawn}
use Rattle.draw_graph.proofs.events.drawn_events.Goals as goal
use Rattle.draw_graph.proofs.events.drawn_events.Goals.{then-is_drawn, else-is_drawn}

pub loop-number-init : goal.loop-number-init
loop-number-init c =
    none_below c.args.events.now (c.args.reads_from.now ++ c.args.ends.now) _ _ c.empty-drawn.ensures

pub loop-number-preserved : goal.loop-number-preserved
loop-number-preserved c = elim c.if-is_drawn.branch [
  | then-is_drawn w ↦
      rw w.drawn-is (grown c.args.events.now (c.args.reads_from.now ++ c.args.ends.now)
      c.loop-number.drawn _ _ c.loop-number.number c.loop-number-test.true
      (c.is_drawn.ensures.0 w.if-is_drawn.true) c.loop-number.invariant w.insert.ensures)
  | else-is_drawn w ↦
      rw w.drawn-is (kept c.args.events.now (c.args.reads_from.now ++ c.args.ends.now)
      c.loop-number.drawn _ c.loop-number.number
      (λ d. false≢true (sym w.if-is_drawn.false ∙ c.is_drawn.ensures.1 d))
      c.loop-number.invariant)
]

pub returns : goal.returns
returns c =
    all_drawn c.args.events.now (c.args.reads_from.now ++ c.args.ends.now) c.loop-number.drawn _
    c.loop-number.number (omega (arith, c.loop-number-test.false, c.loop-number.auto.number-end))
    c.loop-number.invariant
