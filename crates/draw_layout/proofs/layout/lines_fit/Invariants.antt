use Rattle.std.proofs.Common.{◌≡◌, take, true}
use Rattle.std.specs.List.{list_all}
use Rattle.draw_layout.specs.Layout.{line_fits}
use Rattle.draw_layout.proofs.layout.lines_fit.Given as goal

abbrev pub invariant-loop-line : goal.invariant-loop-line
invariant-loop-line l = list_all (line_fits l.picture) (take l.line-index l.lines) ≡ true
