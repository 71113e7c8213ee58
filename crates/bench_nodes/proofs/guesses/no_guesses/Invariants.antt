use Rattle.std.proofs.Common.{◌≡◌, length}
use Rattle.bench_nodes.proofs.guesses.no_guesses.Given as goal

abbrev pub invariant-loop : goal.invariant-loop
invariant-loop l = length l.guesses.items ≡ l.counter
