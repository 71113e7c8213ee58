use Rattle.std.proofs.Common.{◌≡◌, drop}
use Rattle.bench_parts.specs.States.{has_model}
use Rattle.bench_parts.proofs.find.has_model.Given as goal

abbrev pub invariant-loop-model : goal.invariant-loop-model
invariant-loop-model l = has_model (drop l.model-index l.models) l.id ≡ has_model l.models l.id
