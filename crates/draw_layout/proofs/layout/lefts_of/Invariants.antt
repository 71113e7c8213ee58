use Rattle.std.proofs.Common.{◌≡◌}
use Rattle.draw_layout.specs.Layout.{lefts_of}
use Rattle.draw_layout.proofs.layout.lefts_of.Given as goal

abbrev pub invariant-loop-column : goal.invariant-loop-column
invariant-loop-column l = l.lefts.items ≡ lefts_of l.ends l.frame l.column
