use Rattle.std.proofs.Common.{◌<◌, length, map, arith}
use Rattle.board.specs.Listing.{listed_cell, row_listed}
use Rattle.board.proofs.ListedRows.{listed_more}
use Rattle.board.proofs.listing.all_listed.Goals as goal

pub loop-row-preserved : goal.loop-row-preserved
loop-row-preserved c =
    let inside : c.loop-row.row-index < length c.args.rows.now = omega (arith, c.loop-row-test.true) in
    listed_more (row_listed c.args.columns.now) (map listed_cell c.loop-row.cells.items)
    (map listed_cell c.push_row.new.cells.items) c.args.rows.now c.loop-row.row-index c.row-item.result
    inside c.row-item.is c.loop-row.invariant c.in_ok-push_row.ensures
