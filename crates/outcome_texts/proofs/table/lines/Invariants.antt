use Rattle.std.proofs.Common.{◌≡◌, ◌∷◌, take, map}
use Rattle.outcome_texts.specs.Columns.{head_fields, row_fields, row_of}
use Rattle.outcome_texts.proofs.table.lines.Given as goal

abbrev pub invariant-loop-row : goal.invariant-loop-row
invariant-loop-row l =
    l.lines.items ≡ head_fields l.models ∷ map row_fields (map row_of (take l.row-index l.rows))
