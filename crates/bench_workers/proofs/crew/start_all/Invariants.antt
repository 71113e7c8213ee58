use Rattle.std.proofs.Common.{◌≡◌, ◌+◌, length}
use Rattle.bench_workers.proofs.crew.start_all.Given as goal

-- so many were started
abbrev pub invariant-loop : goal.invariant-loop
invariant-loop g l = length l.handles.items ≡ length l.initial.handles.items + l.counter
