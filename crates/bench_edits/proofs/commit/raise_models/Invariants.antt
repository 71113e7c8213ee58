use Rattle.std.proofs.Common.{◌≡◌, ◌++◌, map, take, drop}
use Rattle.bench_parts.specs.Models.{raised_model}
use Rattle.bench_edits.proofs.commit.raise_models.Given as goal

abbrev pub invariant-loop-row : goal.invariant-loop-row
invariant-loop-row l =
    l.rows
    ≡ map (raised_model l.last l.number) (take l.row-index l.initial.rows)
    ++ drop l.row-index l.initial.rows
