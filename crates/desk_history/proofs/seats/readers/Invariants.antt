use Rattle.std.proofs.Common.{◌≡◌, vec_len}
use Rattle.desk_history.proofs.seats.readers.Given as goal

abbrev pub invariant-loop : goal.invariant-loop
invariant-loop g l = vec_len l.readers ≡ l.counter
