use Rattle.std.proofs.Common.{◌≡◌, map}
use Rattle.std.specs.List.{range_with_len}
use Rattle.board.specs.Lines.{test_cell}
use Rattle.board.proofs.edit.cells_of_test.Given as goal

abbrev pub invariant-loop-model : goal.invariant-loop-model
invariant-loop-model l = l.cells.items ≡ map (test_cell l.test) (range_with_len 0 l.model)
