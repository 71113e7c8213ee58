use Rattle.std.proofs.Common.{◌≡◌, ◌≤◌, length, drop, reverse}
use Rattle.why_labels.specs.Scanning.{open_from, names_from}
use Rattle.why_labels.proofs.unions.union_sources.Given as goal

abbrev pub invariant-back : goal.invariant-back
invariant-back l =
    (l.left ≤ length l.steps) × (reverse l.pending.items ≡ open_from (drop l.left l.steps))
    × (reverse l.sources.items ≡ names_from (drop l.left l.steps))

abbrev pub decreases-back : goal.decreases-back
decreases-back l = l.left
