use Rattle.std.proofs.Common.{◌≡◌, false, take}
use Rattle.std.specs.List.{list_any}
use Rattle.thread_runs.specs.LocationValues.{line_may_put}
use Rattle.thread_runs.proofs.location_values.may_hold.Given as goal

abbrev pub invariant-loop-line : goal.invariant-loop-line
invariant-loop-line l = list_any (line_may_put l.r l.value) (take l.line-index l.line-items) ≡ false
