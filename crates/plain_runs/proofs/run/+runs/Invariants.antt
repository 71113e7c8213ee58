use Rattle.std.proofs.Common.{◌+◌, ◌*◌, length, map, take, Contains}
use Rattle.meaning.specs.Sets.{IsListOf}
use Rattle.meaning.specs.Machine as machine
use Rattle.plain_machine.specs.Values.{value_as, state_as}
use Rattle.plain_runs.specs.Runs.{run_as, ValuesOf, IsRunLoading}
use Rattle.plain_runs.proofs.run.+runs.Given as goal

abbrev pub decreases-runs_from : goal.decreases-runs_from
decreases-runs_from l = 5 * length l.lines.now

abbrev pub decreases-runs_with : goal.decreases-runs_with
decreases-runs_with l = 5 * length l.lines.now + 1

abbrev pub decreases-runs_loading : goal.decreases-runs_loading
decreases-runs_loading l = 5 * length l.lines.now + 2

abbrev pub decreases-runs_at : goal.decreases-runs_at
decreases-runs_at l = 5 * length l.lines.now + 3

abbrev pub decreases-runs_at_line : goal.decreases-runs_at_line
decreases-runs_at_line l = 5 * length l.lines.now + 4

abbrev pub invariant-runs_loading-loop-value : goal.invariant-runs_loading-loop-value
invariant-runs_loading-loop-value l =
    IsListOf (IsRunLoading (Contains (take l.value-index (map value_as l.values))) (ValuesOf l.values) l.lines l.instruction
    (machine.is_taken_in (state_as l.state) l.instruction) (state_as l.state))
    (map run_as l.runs.items)
