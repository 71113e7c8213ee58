use Rattle.std.proofs.Common.{◌≡◌, map, take}
use Rattle.bench_edits.specs.Readings.{fault_in}
use Rattle.bench_edits.proofs.models.model_faults.Given as goal

abbrev pub invariant-loop-model : goal.invariant-loop-model
invariant-loop-model l =
    l.faults.items ≡ map (λ n. fault_in n.reading) (map (λ m. m.now) (take l.model-index l.models))
