use Rattle.std.proofs.Common.{◌≡◌, map}
use Rattle.bench_values.specs.Values.{column_value}
use Rattle.bench_values.proofs.run.column_values.Given as goal

abbrev pub invariant-loop-column : goal.invariant-loop-column
invariant-loop-column l = l.values.items ≡ map column_value l.yielded
