use Rattle.std.proofs.Common.{◌≡◌, map, take, None}
use Rattle.std.specs.Prelude.{option_map}
use Rattle.std.specs.Arc.{arc_value}
use Rattle.board.proofs.row.Row.open.Given as goal

abbrev pub invariant-loop-column : goal.invariant-loop-column
invariant-loop-column l =
    map (option_map arc_value) l.cells.items ≡ map (λ c. None) (take l.column-index l.columns)
