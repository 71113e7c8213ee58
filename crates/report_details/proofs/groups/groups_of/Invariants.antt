use Rattle.std.proofs.Common.{◌≡◌, take, map}
use Rattle.report_details.specs.Groups.{first_like}
use Rattle.report_details.proofs.groups.groups_of.Given as goal

abbrev pub invariant-loop-outcome : goal.invariant-loop-outcome
invariant-loop-outcome l =
    l.groups.items ≡ map (first_like 0 l.outcomes) (take l.outcome-index l.outcomes)
