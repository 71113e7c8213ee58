use Rattle.std.proofs.Common.{◌≡◌, ◌≤◌, length, drop, reverse}
use Rattle.why_walks.specs.Factors.{parts_in}
use Rattle.why_walks.specs.Scanning.{pending_from, parts_from}
use Rattle.why_walks.proofs.factor.factors.Given as goal

abbrev pub invariant-back : goal.invariant-back
invariant-back l =
    (l.left ≤ length l.steps) × (reverse l.pending.items ≡ pending_from (drop l.left l.steps))
    × (parts_in l.factors.items ≡ parts_from (drop l.left l.steps))

abbrev pub decreases-back : goal.decreases-back
decreases-back l = l.left
