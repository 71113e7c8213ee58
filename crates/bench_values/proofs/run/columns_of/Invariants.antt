use Rattle.std.proofs.Common.{◌≡◌, map, take}
use Rattle.bench_values.specs.Values.{columns_of}
use Rattle.bench_values.proofs.run.columns_of.Given as goal

abbrev pub invariant-loop-value : goal.invariant-loop-value
invariant-loop-value l =
    map (λ c. c.now) l.columns.items ≡ columns_of (map (λ v. v.now) (take l.value-index l.values))
