use Rattle.std.proofs.Common.{◌≡◌, drop}
use Rattle.bench_parts.specs.States.{keep_models}
use Rattle.bench_parts.proofs.owners.keep_models.Given as goal

abbrev pub invariant-loop-model : goal.invariant-loop-model
invariant-loop-model l =
    keep_models (drop l.model-index l.models) l.new_models ≡ keep_models l.models l.new_models
