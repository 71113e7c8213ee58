use Rattle.std.proofs.Common.{arith}
use Rattle.std.proofs.lemmas.Grind.{common_steps}
use Rattle.std.proofs.lemmas.List.FromFn.{map-range_with_len_more}
use Rattle.board.specs.Lines.{model_cell}
use Rattle.board.proofs.edit.cells_of_model.Goals as goal

pub loop-test-preserved : goal.loop-test-preserved
loop-test-preserved c =
    let more = map-range_with_len_more (model_cell c.args.model) 0 c.loop-test.test c.loop-test.test (omega arith) in
    grind (arith, common_steps)
