use Rattle.std.proofs.Common.{◌≡◌, ◌-◌, ◌^◌, min, take}
use Rattle.std.specs.List.{sum_by}
use Rattle.text_values.specs.ModelValues.{clause_of}
use Rattle.bench_texts.specs.Limits.{clause_outputs}
use Rattle.bench_texts.proofs.count.count_items.Given as goal

abbrev pub invariant-loop-item : goal.invariant-loop-item
invariant-loop-item l =
    l.total
    ≡ min (sum_by (λ i. clause_outputs (clause_of i)) (take l.item-index l.items)) (2 ^ 64 - 1)
