use Rattle.std.proofs.Common.{◌≡◌, map, take}
use Rattle.std.specs.Prelude.{option_map}
use Rattle.std.specs.Arc.{arc_value}
use Rattle.board.proofs.row.Row.widened.Given as goal

abbrev pub invariant-loop-cell : goal.invariant-loop-cell
invariant-loop-cell l =
    map (option_map arc_value) l.cells.items
    ≡ map (option_map arc_value) (take l.cell-index l.cell-items)
