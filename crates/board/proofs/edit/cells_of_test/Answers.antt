use Rattle.std.proofs.Common.{arith}
use Rattle.std.proofs.lemmas.Grind.{common_steps}
use Rattle.std.proofs.lemmas.List.FromFn.{map-range_with_len_more}
use Rattle.board.specs.Lines.{test_cell}
use Rattle.board.proofs.edit.cells_of_test.Goals as goal

pub loop-model-preserved : goal.loop-model-preserved
loop-model-preserved c =
    let more = map-range_with_len_more (test_cell c.args.test) 0 c.loop-model.model c.loop-model.model (omega arith) in
    grind (arith, common_steps)
