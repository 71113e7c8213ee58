use Rattle.std.proofs.Common.{sym, subst}
use Rattle.board.specs.Contents.{BoardContent}
use Rattle.board.specs.Operations.{board_after}
use Rattle.desk_ledger.specs.Boards.{LeavesCells}
use Rattle.desk_ledger.proofs.AllPosted.{known_within}
use Rattle.std.proofs.Common.{inl}
use Rattle.bench_instance.specs.StampedTexts.{stamped_net, verdict_of}
use Rattle.bench_instance.specs.Cells.{board_cells}
use Rattle.bench_instance.specs.Lemmas.Laws.{IsListed, cells_are_known}
use Rattle.bench_instance.proofs.EditedCells.{row_leaves}
use Rattle.bench_instance.proofs.board_texts.StampedTextsBoardTexts.cells_edited.Goals as goal

pub returns-in-Some-clause-left : goal.returns-in-Some-clause-left
returns-in-Some-clause-left c t e number ops all made is =
    let w = c.args.self.now in
    let r = c.row_range.result in
    let range = rw (c.cell_count-count.ensures, c.model_count-models.ensures, is) at c.row_range.ensures in
    let leaves = row_leaves t made.ready w e made.prepared number made.op ops all made.valid made.after made.prepares_it made.announced made.commits_it made.list c.in-Some.test c.test_row.result r.first r.end c.in-Some.ensures c.test_row.ensures range in
    subst
    (λ (b : BoardContent). LeavesCells (stamped_net w) (verdict_of t) (verdict_of w)
    w.touched.items (board_cells (board_after ops)) (board_cells b) r.first r.end)
    (sym is) leaves

pub returns-in-None-clause-left : goal.returns-in-None-clause-left
returns-in-None-clause-left c t e number ops all made is test model n v =
    let w = c.args.self.now in
    let after = c.requires.after in
    let listed = cells_are_known w after.0 test model n c.requires.valid after.1 v in
    inl (known_within (board_cells c.args.board.now) c.cell_count-count.result test model
    c.cell_count-count.ensures
    (subst (λ (b : BoardContent). IsListed b test model) (sym after.2) listed))
