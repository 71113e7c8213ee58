use Rattle.std.proofs.Common.{◌≡◌, ◌++◌, drop}
use Rattle.draw_layout.specs.Layout.{arrows_of}
use Rattle.draw_layout.proofs.layout.arrows_of.Given as goal

-- the lines so far, with those that are left, are all
abbrev pub invariant-loop-number : goal.invariant-loop-number
invariant-loop-number l =
    l.arrows.items ++ arrows_of l.ends l.frame l.bottom l.number (drop l.number l.lines)
    ≡ arrows_of l.ends l.frame l.bottom 0 l.lines
