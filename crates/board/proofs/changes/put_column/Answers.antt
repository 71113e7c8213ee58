use Rattle.std.proofs.Common.{arith}
use Rattle.board.proofs.Changed.{changed-by}
use Rattle.board.proofs.changes.put_column.Goals as goal

pub returns : goal.returns
returns c =
    changed-by (λ _. c.args.column) c.args.columns.now.items c.args.at c.index_mut.result.now
    c.replace.new.dest (omega arith) c.index_mut.ensures.value c.replace.ensures.after
