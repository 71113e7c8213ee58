use Rattle.std.proofs.Common.{◌≡◌, ◌+◌, length}
use Rattle.why_walks.specs.Walks.{AreLinksOn}
use Rattle.why_walks.proofs.Walking.{IsRestsSoFar}
use Rattle.why_walks.proofs.run.rests.Given as goal

abbrev pub invariant-back : goal.invariant-back
invariant-back l =
    (length l.rests.items + l.left ≡ length l.links)
    × (AreLinksOn l.count l.links → IsRestsSoFar l.count l.links l.rests.items l.rest l.left)

abbrev pub decreases-back : goal.decreases-back
decreases-back l = l.left
