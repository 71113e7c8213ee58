use Rattle.std.proofs.Common.{◌≡◌, []}
use Rattle.bench_workers.specs.Tallies.{no_jobs}
use Rattle.bench_workers.proofs.crew.send_home.Given as goal

-- without a worker nobody is joined
abbrev pub invariant-loop-handle : goal.invariant-loop-handle
invariant-loop-handle g l =
    l.fn.handles.items ≡ [] → (l.handle-iterator.rest.items ≡ []) × (l.total ≡ no_jobs)
