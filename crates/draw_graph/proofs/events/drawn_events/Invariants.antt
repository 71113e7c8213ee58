use Rattle.std.proofs.Common.{length, ◌++◌}
use Rattle.bit_rows.specs.Relation.{IsEvents}
use Rattle.draw_graph.proofs.Growing.{DrawnBelow}
use Rattle.draw_graph.proofs.events.drawn_events.Given as goal

abbrev pub invariant-loop-number : goal.invariant-loop-number
invariant-loop-number l =
    IsEvents l.drawn (length l.events) (DrawnBelow l.events (l.reads_from ++ l.ends) l.number)
