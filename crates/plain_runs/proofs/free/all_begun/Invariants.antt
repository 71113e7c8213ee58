use Rattle.std.proofs.Common.{◌≡◌, map, take}
use Rattle.plain_runs.specs.Runs.{instance_as}
use Rattle.plain_runs.specs.Frees.{free_run_as, with_first}
use Rattle.plain_runs.proofs.free.all_begun.Given as goal

abbrev pub invariant-loop-run : goal.invariant-loop-run
invariant-loop-run l =
    map free_run_as l.longer.items
    ≡ map (with_first l.taken (instance_as l.instance)) (map free_run_as (take l.run-index l.runs))
