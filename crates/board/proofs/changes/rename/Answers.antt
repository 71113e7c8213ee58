use Rattle.std.specs.Arc.{arc_value}
use Rattle.std.proofs.Common.{arith}
use Rattle.board.specs.Operations.{renamed_row}
use Rattle.board.proofs.Changed.{changed-by}
use Rattle.board.proofs.changes.rename.Goals as goal

pub returns : goal.returns
returns c =
    changed-by (renamed_row (arc_value c.args.name)) c.args.rows.now.items c.args.at
    c.index_mut.result.now c.rename.new.self (omega arith) c.index_mut.ensures.value
    c.rename.ensures
