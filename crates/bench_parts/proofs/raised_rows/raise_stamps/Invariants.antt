use Rattle.std.proofs.Common.{◌≡◌, ◌++◌, map, take, drop}
use Rattle.bench_parts.specs.Stamps.{raised}
use Rattle.bench_parts.proofs.raised_rows.raise_stamps.Given as goal

abbrev pub invariant-loop-stamp : goal.invariant-loop-stamp
invariant-loop-stamp l =
    l.stamps
    ≡ map (raised l.last l.number) (take l.stamp-index l.initial.stamps)
    ++ drop l.stamp-index l.initial.stamps
