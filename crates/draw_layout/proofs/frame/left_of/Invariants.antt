use Rattle.std.proofs.Common.{◌≡◌, ◌≤◌, ◌+◌, ◌*◌, ◌^◌}
use Rattle.draw_layout.specs.Layout.{left_of}
use Rattle.draw_layout.proofs.frame.left_of.Given as goal

abbrev pub invariant-loop-before : goal.invariant-loop-before
invariant-loop-before l =
    (l.left ≡ left_of l.ends l.frame l.before) × (l.left ≤ 2 ^ 19 * (l.before + 1))
