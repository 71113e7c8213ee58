use Rattle.std.proofs.Common.{◌≡◌, ◌+◌, ◌++◌, length}
use Rattle.outcome_texts.specs.Differences.{merged}
use Rattle.outcome_texts.proofs.difference.merged.Given as goal

-- the states found, with those that are left, are all
abbrev pub invariant-loop-least : goal.invariant-loop-least
invariant-loop-least l = l.states.items ++ merged l.left l.right ≡ merged l.first l.second

abbrev pub decreases-loop-least : goal.decreases-loop-least
decreases-loop-least l = length l.left + length l.right
