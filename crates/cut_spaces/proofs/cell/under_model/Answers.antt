use Rattle.from_scratch.proofs.Cells.{scratch_fault}
use Rattle.cut_spaces.proofs.cell.under_model.Goals as goal

pub returns-in-Ok : goal.returns-in-Ok
returns-in-Ok c = λ text is.
    let read = rw c.in-Ok.is at is in
    c.over_candidates.ensures text read.0 read.1

pub returns-in-Err : goal.returns-in-Err
returns-in-Err c = λ text is.
    scratch_fault c.args.test.now text c.in-Err.fault c.refused.result (rw c.in-Err.is at is)
    c.refused.ensures.kind c.refused.ensures.text c.refused.ensures.refusal
