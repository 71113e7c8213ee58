use Rattle.cut_spaces.proofs.Evaluating.{refusal_of}
use Rattle.cut_spaces.proofs.cell.over_candidates.Goals as goal

pub returns-in-Err : goal.returns-in-Err
returns-in-Err c = λ text none are.
    refusal_of text c.args.test.now c.in-Err.refusal c.refused.result none
    (rw c.in-Err.is at c.in_ok-parts.ensures)
    c.refused.ensures.kind c.refused.ensures.text c.refused.ensures.refusal
