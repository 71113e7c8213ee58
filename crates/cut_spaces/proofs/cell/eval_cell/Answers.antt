use Rattle.from_scratch.proofs.Cells.{scratch_fault}
use Rattle.cut_spaces.proofs.cell.eval_cell.Goals as goal

pub returns-in-Ok : goal.returns-in-Ok
returns-in-Ok c =
    c.over_candidates.ensures c.args.model.now c.in-Ok.ensures.fault
    (c.in-Ok.ensures.items, c.in-Ok.ensures.labels)

pub returns-in-Err-Refused : goal.returns-in-Err-Refused
returns-in-Err-Refused c =
    scratch_fault c.args.test.now c.args.model.now c.in-Err-Refused.fault c.refused.result
    (rw c.in-Err-Refused.field-0-is at c.in-Err-Refused.ensures.fault) c.refused.ensures.kind
    c.refused.ensures.text c.refused.ensures.refusal
