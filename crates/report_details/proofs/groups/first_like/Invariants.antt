use Rattle.std.proofs.Common.{◌≡◌, drop}
use Rattle.report_details.specs.Groups.{first_like}
use Rattle.report_details.proofs.groups.first_like.Given as goal

abbrev pub invariant-loop-index : goal.invariant-loop-index
invariant-loop-index l =
    first_like l.index (drop l.index l.outcomes) l.outcome ≡ first_like 0 l.outcomes l.outcome
