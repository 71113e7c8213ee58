use Rattle.std.proofs.Common.{◌≡◌, ◌+◌, ◌==◌, drop}
use Rattle.std.specs.List.{position_or_len}
use Rattle.bench_parts.proofs.find.model_index.Given as goal

abbrev pub invariant-loop-index : goal.invariant-loop-index
invariant-loop-index l =
    l.index + position_or_len (λ x. x.id == l.id) (drop l.index l.models)
    ≡ position_or_len (λ x. x.id == l.id) l.models
