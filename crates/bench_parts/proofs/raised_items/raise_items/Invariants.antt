use Rattle.std.proofs.Common.{◌≡◌, ◌++◌, map, take, drop}
use Rattle.bench_parts.specs.Items.{raised_item}
use Rattle.bench_parts.proofs.raised_items.raise_items.Given as goal

abbrev pub invariant-loop-row : goal.invariant-loop-row
invariant-loop-row l =
    l.rows
    ≡ map (raised_item l.last l.number) (take l.row-index l.initial.rows)
    ++ drop l.row-index l.initial.rows
