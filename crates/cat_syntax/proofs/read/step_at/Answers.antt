use Rattle.cat_syntax.proofs.Texts.{step_goes, step_fails, step_fails_before}
use Rattle.cat_syntax.proofs.read.step_at.Goals as goal

pub returns-in-Ok-clause-steps : goal.returns-in-Ok-clause-steps
returns-in-Ok-clause-steps c = step_goes c.args.before c.args.offset _ _ c.in-Ok.ensures.steps

pub returns-in-Err-Refused-clause-steps : goal.returns-in-Err-Refused-clause-steps
returns-in-Err-Refused-clause-steps c =
    step_fails c.args.before c.args.offset _ _ _ c.in-Err-Refused.field-0-is
    c.in-Err-Refused.ensures.steps

pub returns-in-Err-RefusedBefore-clause-steps : goal.returns-in-Err-RefusedBefore-clause-steps
returns-in-Err-RefusedBefore-clause-steps c =
    step_fails_before c.args.before c.args.offset _ _ _ c.in-Err-RefusedBefore.field-0-is
    c.in-Err-RefusedBefore.ensures.steps
