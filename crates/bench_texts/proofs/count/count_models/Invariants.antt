use Rattle.std.proofs.Common.{◌≡◌, ◌+◌, ◌-◌, ◌^◌, min, take}
use Rattle.std.specs.List.{sum_by}
use Rattle.bench_texts.specs.Held.{plain_model}
use Rattle.bench_texts.specs.Limits.{items_outputs}
use Rattle.bench_texts.proofs.count.count_models.Given as goal

abbrev pub invariant-loop-model : goal.invariant-loop-model
invariant-loop-model l =
    l.total
    ≡ min (sum_by (λ m. items_outputs (plain_model m).items + 1) (take l.model-index l.models))
    (2 ^ 64 - 1)
