use Rattle.std.proofs.Common.{sym, ap, ◌∙◌}
use Rattle.binding_kinds.proofs.Bodies.{fault_of, applied_fault}
use Rattle.fault_texts.proofs.body.applied_fault.Goals as goal

pub returns-in-Err : goal.returns-in-Err
returns-in-Err c =
    λ ss kept. sym (applied_fault c.args.sight.now.functions.now ss c.args.count _ _ kept
    ∙ ap fault_of (sym c.function.ensures ∙ c.in-Err.is))

pub returns-in-Ok : goal.returns-in-Ok
returns-in-Ok c =
    λ ss kept. sym (applied_fault c.args.sight.now.functions.now ss c.args.count _ _ kept
    ∙ ap fault_of (sym c.function.ensures ∙ c.in-Ok.is))
