use Rattle.std.proofs.Common.{◌≡◌, map}
use Rattle.std.specs.List.{range_with_len}
use Rattle.board.specs.Lines.{model_cell}
use Rattle.board.proofs.edit.cells_of_model.Given as goal

abbrev pub invariant-loop-test : goal.invariant-loop-test
invariant-loop-test l = l.cells.items ≡ map (model_cell l.model) (range_with_len 0 l.test)
