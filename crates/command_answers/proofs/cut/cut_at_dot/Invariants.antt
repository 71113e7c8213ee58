use Rattle.std.proofs.Common.{◌≡◌, ◌+◌, ◌-◌, ◌<◌, ◌≤◌, length, get_or}
use Rattle.command_answers.specs.Cut.{HasNoDotLine}
use Rattle.command_answers.proofs.cut.cut_at_dot.Given as goal

abbrev pub invariant-loop-start : goal.invariant-loop-start
invariant-loop-start l =
    (l.start ≤ length l.bytes + 1)
    × (0 < l.start → l.start ≤ length l.bytes → get_or l.bytes (l.start - 1) 0 ≡ 10)
    × HasNoDotLine l.bytes l.start

abbrev pub decreases-loop-start : goal.decreases-loop-start
decreases-loop-start l = length l.bytes - l.start
