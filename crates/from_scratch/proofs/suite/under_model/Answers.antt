use Rattle.from_scratch.proofs.Cells.{scratch_evaluated, scratch_fault}
use Rattle.from_scratch.proofs.suite.under_model.Goals as goal

pub returns-in-Ok-clause-outcome : goal.returns-in-Ok-clause-outcome
returns-in-Ok-clause-outcome c = λ text is.
    let read = rw c.in-Ok.is at is in
    scratch_evaluated text c.in-Ok.resolved.items.items c.args.test.now c.over_space.result read.0
    read.1 c.over_space.ensures.cell c.over_space.ensures.model

pub returns-in-Err-clause-outcome : goal.returns-in-Err-clause-outcome
returns-in-Err-clause-outcome c = λ text is.
    scratch_fault c.args.test.now text c.in-Err.fault c.refused.result (rw c.in-Err.is at is)
    c.refused.ensures.kind c.refused.ensures.text c.refused.ensures.refusal
