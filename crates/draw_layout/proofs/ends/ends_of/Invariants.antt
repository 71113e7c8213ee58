use Rattle.std.proofs.Common.{◌≡◌, ◌++◌, drop}
use Rattle.draw_layout.specs.Ends.{ends_of}
use Rattle.draw_layout.proofs.ends.ends_of.Given as goal

-- the ends of the lines so far, with those of the lines that are left, are all
abbrev pub invariant-loop-number : goal.invariant-loop-number
invariant-loop-number l =
    l.ends.items ++ ends_of l.number (drop l.number l.lines) ≡ ends_of 0 l.lines
