use Rattle.std.proofs.Common.{◌≡◌, take}
use Rattle.draw_layout.specs.Layout.{longest_spine}
use Rattle.draw_layout.proofs.frame.longest_spine.Given as goal

abbrev pub invariant-loop-line : goal.invariant-loop-line
invariant-loop-line l = l.most ≡ longest_spine (take l.line-index l.lines)
