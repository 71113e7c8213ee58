use Rattle.std.proofs.Common.{◌≡◌}
use Rattle.watch_run.specs.Holding.{bench_model_names}
use Rattle.watch_run.proofs.model_names.bench_model_names.Given as goal

-- the names so far
abbrev pub invariant-loop-index : goal.invariant-loop-index
invariant-loop-index l = l.names.items ≡ bench_model_names l.index
