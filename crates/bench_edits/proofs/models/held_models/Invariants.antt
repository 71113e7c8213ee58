use Rattle.std.proofs.Common.{◌≡◌, ◌++◌, length, drop}
use Rattle.bench_edits.specs.Edited.{held_models}
use Rattle.bench_edits.proofs.models.held_models.Given as goal

abbrev pub invariant-loop-row : goal.invariant-loop-row
invariant-loop-row l =
    l.held.items ++ held_models (drop (length l.yielded) l.rows) (drop (length l.yielded) l.faults)
    ≡ held_models l.rows l.faults
