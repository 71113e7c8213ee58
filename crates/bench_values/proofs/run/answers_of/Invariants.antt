use Rattle.std.proofs.Common.{◌≡◌, map, take}
use Rattle.bench_values.specs.Values.{answers_of}
use Rattle.bench_values.proofs.run.answers_of.Given as goal

abbrev pub invariant-loop-value : goal.invariant-loop-value
invariant-loop-value l =
    map (λ a. a.now) l.found.items ≡ answers_of (map (λ v. v.now) (take l.value-index l.values))
