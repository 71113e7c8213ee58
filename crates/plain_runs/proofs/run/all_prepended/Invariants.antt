use Rattle.std.proofs.Common.{◌≡◌, map, take}
use Rattle.meaning.specs.Runs.{with_instance}
use Rattle.plain_runs.specs.Runs.{instance_as, run_as}
use Rattle.plain_runs.proofs.run.all_prepended.Given as goal

abbrev pub invariant-loop-run : goal.invariant-loop-run
invariant-loop-run l =
    map run_as l.longer.items
    ≡ map (with_instance (instance_as l.instance)) (map run_as (take l.run-index l.runs))
