use Rattle.outcome_texts.specs.Cells.{cell_of}
use Rattle.meaning_bench.proofs.Named.{board_cell}
use Rattle.meaning_bench.proofs.views.cell_in.Goals as goal

pub returns : goal.returns
returns g c =
    board_cell c.args.view.now
    (c.histories_are_meant.ensures.tests c.args.view.now c.requires.history.1)
    c.args.test.now c.args.model.now (cell_of c.result_in.result) c.result_in.ensures.right
