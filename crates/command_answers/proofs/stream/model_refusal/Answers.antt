use Rattle.std.proofs.Common.{ap}
use Rattle.cat_syntax.specs.declared.fault.CatFault.{CatFault}
use Rattle.command_answers.specs.declared.fault.EvalFault.TheVariants as eval_faults
use Rattle.command_answers.proofs.Answering.{model_line}
use Rattle.command_answers.proofs.stream.model_refusal.Goals as goal

pub returns-in-Refused : goal.returns-in-Refused
returns-in-Refused c =
    model_line c.refusal.result (eval_faults.Model c.args.fault) c.in-Refused.rule c.number.result
    c.in-Refused.offset (ap (λ (f : CatFault). eval_faults.Model f) c.in-Refused.is)
    c.number.ensures c.refusal.ensures
