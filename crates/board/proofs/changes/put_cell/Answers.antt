use Rattle.std.proofs.Common.{sym, arith}
use Rattle.std.specs.Prelude.{option_map}
use Rattle.std.specs.Arc.{arc_value}
use Rattle.board.specs.Operations.{with_cell}
use Rattle.board.proofs.Changed.{changed-by, changed-past}
use Rattle.board.proofs.changes.put_cell.Goals as goal

pub returns-then-at-len : goal.returns-then-at-len
returns-then-at-len c =
    changed-by (with_cell c.args.at.model (option_map arc_value c.args.cell)) c.args.rows.now.items
    c.args.at.test c.index_mut.result.now c.put.new.self (omega arith) c.index_mut.ensures.value
    c.put.ensures

pub returns-else-at-len : goal.returns-else-at-len
returns-else-at-len c =
    sym (changed-past (with_cell c.args.at.model (option_map arc_value c.args.cell))
    c.args.rows.now.items c.args.at.test (omega arith))
