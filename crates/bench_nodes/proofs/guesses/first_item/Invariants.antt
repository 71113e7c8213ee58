use Rattle.std.proofs.Common.{◌≡◌, ◌+◌, ◌==◌, drop}
use Rattle.std.specs.List.{position_or_len}
use Rattle.bench_nodes.proofs.guesses.first_item.Given as goal

abbrev pub invariant-loop-index : goal.invariant-loop-index
invariant-loop-index l =
    l.index + position_or_len (λ x. x.number == l.number) (drop l.index l.rows)
    ≡ position_or_len (λ x. x.number == l.number) l.rows
