use Rattle.std.proofs.Common.{◌≡◌, ◌+◌, drop}
use Rattle.bench_instance.specs.Above.{model_holding}
use Rattle.bench_instance.proofs.models_above.model_holding.Given as goal

abbrev pub invariant-loop-index : goal.invariant-loop-index
invariant-loop-index l =
    l.index + model_holding (drop l.index l.models) l.left ≡ model_holding l.models l.item
