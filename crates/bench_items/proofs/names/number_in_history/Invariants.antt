use Rattle.std.proofs.Common.{◌≡◌, ◌+◌, drop}
use Rattle.bench_items.specs.Naming.{number_in_history}
use Rattle.bench_items.proofs.names.number_in_history.Given as goal

abbrev pub invariant-loop-index : goal.invariant-loop-index
invariant-loop-index l =
    number_in_history l.history l.name
    ≡ l.index + number_in_history (drop l.index l.history) l.name
