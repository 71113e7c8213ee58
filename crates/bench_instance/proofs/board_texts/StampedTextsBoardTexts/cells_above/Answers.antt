use Rattle.std.proofs.Common.{sym, subst}
use Rattle.board.specs.Contents.{BoardContent}
use Rattle.desk_ledger.specs.Boards.{HoldsAbove}
use Rattle.bench_instance.specs.StampedTexts.{stamped_net, verdict_of}
use Rattle.bench_instance.specs.Cells.{board_cells}
use Rattle.bench_instance.proofs.Above.{holds_row, holds_cell}
use Rattle.bench_instance.proofs.board_texts.StampedTextsBoardTexts.cells_above.Goals as goal

pub returns-in-Some-clause-holds : goal.returns-in-Some-clause-holds
returns-in-Some-clause-holds c =
    let t = c.args.self.now in
    let after = c.requires.after in
    let range = rw (c.cell_count-count.ensures, c.model_count-models.ensures, after.2) at c.row_range.ensures in
    let holds = holds_cell t after.0 c.args.node c.test_row-row.result c.row_range.result.first c.row_range.result.end c.requires.valid after.1 c.test_row-row.ensures c.in-Some.model c.in-Some.ensures range in
    subst
    (λ (b : BoardContent). HoldsAbove (stamped_net t) (verdict_of t) c.args.node (board_cells b)
    c.row_range.result.first c.row_range.result.end)
    (sym after.2) holds

pub returns-in-None-clause-holds : goal.returns-in-None-clause-holds
returns-in-None-clause-holds c =
    let t = c.args.self.now in
    let after = c.requires.after in
    let range = rw (c.cell_count-count.ensures, c.model_count-models.ensures, after.2) at c.row_range-in-None.ensures in
    let holds = holds_row t after.0 c.args.node c.test_row-row.result c.row_range-in-None.result.first c.row_range-in-None.result.end c.requires.valid after.1 c.test_row-row.ensures range in
    subst
    (λ (b : BoardContent). HoldsAbove (stamped_net t) (verdict_of t) c.args.node (board_cells b)
    c.row_range-in-None.result.first c.row_range-in-None.result.end)
    (sym after.2) holds
