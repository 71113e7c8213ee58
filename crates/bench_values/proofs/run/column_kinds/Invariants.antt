use Rattle.std.proofs.Common.{◌≡◌, map, take}
use Rattle.bench_values.specs.Makes.{column_kind}
use Rattle.bench_values.proofs.run.column_kinds.Given as goal

abbrev pub invariant-loop-column : goal.invariant-loop-column
invariant-loop-column l =
    l.kinds.items ≡ map column_kind (map (λ c. c.now) (take l.column-index l.columns))
