use Rattle.std.proofs.Common.{◌+◌, ◌*◌, length, map, take, Contains}
use Rattle.meaning.specs.Sets.{IsListOf}
use Rattle.plain_machine.specs.Values.{value_as, state_as}
use Rattle.plain_runs.specs.Runs.{ValuesOf}
use Rattle.plain_runs.specs.Frees.{free_run_as, IsFreeRunLoading}
use Rattle.plain_runs.proofs.free.+free.Given as goal

abbrev pub decreases-free_runs_from : goal.decreases-free_runs_from
decreases-free_runs_from l = 5 * length l.lines.now

abbrev pub decreases-free_runs_with : goal.decreases-free_runs_with
decreases-free_runs_with l = 5 * length l.lines.now + 1

abbrev pub decreases-free_runs_loading : goal.decreases-free_runs_loading
decreases-free_runs_loading l = 5 * length l.lines.now + 2

abbrev pub decreases-free_runs_branching : goal.decreases-free_runs_branching
decreases-free_runs_branching l = 5 * length l.lines.now + 2

abbrev pub decreases-free_runs_at : goal.decreases-free_runs_at
decreases-free_runs_at l = 5 * length l.lines.now + 3

abbrev pub decreases-free_runs_at_line : goal.decreases-free_runs_at_line
decreases-free_runs_at_line l = 5 * length l.lines.now + 4

abbrev pub invariant-free_runs_loading-loop-value : goal.invariant-free_runs_loading-loop-value
invariant-free_runs_loading-loop-value l =
    IsListOf (IsFreeRunLoading (Contains (take l.value-index (map value_as l.values))) (ValuesOf l.values) l.lines l.instruction (state_as l.state))
    (map free_run_as l.runs.items)
