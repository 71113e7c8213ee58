use Rattle.bench_edits.proofs.Cells.{settled_fault_scratch}
use Rattle.bench_edits.proofs.cell_laws.settled_fault_is_from_scratch.Goals as goal

pub returns : goal.returns
returns c =
    λ net memos all cell.
    settled_fault_scratch net memos all c.args.test.now c.args.model.now c.args.outcome.now cell
