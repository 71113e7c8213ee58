use Rattle.std.proofs.Common.{ap}
use Rattle.litmus_ppc.specs.declared.fault.LitmusFault.{LitmusFault}
use Rattle.command_answers.specs.declared.fault.EvalFault.TheVariants as eval_faults
use Rattle.command_answers.proofs.Answering.{test_line}
use Rattle.command_answers.proofs.stream.test_refusal.Goals as goal

pub returns-in-Refused : goal.returns-in-Refused
returns-in-Refused c =
    test_line c.refusal.result (eval_faults.Test c.args.fault) c.in-Refused.rule c.number.result
    c.in-Refused.offset (ap (λ (f : LitmusFault). eval_faults.Test f) c.in-Refused.is)
    c.number.ensures c.refusal.ensures
