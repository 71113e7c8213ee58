use Rattle.std.proofs.Common.{◌∙◌, ap, sym, arith}
use Rattle.board.specs.Operations.{narrower_row}
use Rattle.board.proofs.Changed.{mapped-more}
use Rattle.board.proofs.changes.drop_cells.Goals as goal

pub loop-row-preserved : goal.loop-row-preserved
loop-row-preserved c =
    mapped-more (narrower_row c.args.at) c.args.rows.now c.loop-row.rows c.loop-row.row-index
    c.row-item.result c.narrow.new.self (omega arith) c.loop-row.invariant c.row-item.is
    (c.narrow.ensures ∙ ap (narrower_row c.args.at) (sym c.row-item.is))
