use Rattle.std.proofs.Common.{◌≡◌, map, take}
use Rattle.bench_edits.proofs.models.all_models.Given as goal

abbrev pub invariant-loop-model : goal.invariant-loop-model
invariant-loop-model l = map (λ m. m.now) l.all.items ≡ take l.model-index l.models
