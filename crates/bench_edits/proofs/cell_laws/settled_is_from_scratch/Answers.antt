use Rattle.bench_edits.proofs.Cells.{cell_scratch}
use Rattle.bench_edits.proofs.cell_laws.settled_is_from_scratch.Goals as goal

pub returns : goal.returns
returns c =
    λ net memos all cell.
    cell_scratch net memos all c.args.test.now c.args.model.now c.args.outcome.now cell
