use Rattle.std.proofs.Common.{◌∙◌, ap}
use Rattle.std.specs.Prelude.{codes}
use Rattle.std.proofs.lemmas.Result.{IfOk-weaker}
use Rattle.binding_kinds.specs.Numbers as faults
use Rattle.why_forbidden.specs.Drawings.{HasFault, refused_comment}
use Rattle.why_forbidden.proofs.drawing.draw.Goals as goal

pub returns-in-Err-Refused : goal.returns-in-Err-Refused
returns-in-Err-Refused c =
    let fault = rw c.in-Err-Refused.field-0-is at c.in-Err-Refused.ensures.fault in
    IfOk-weaker c.comment.result _ _
    (λ v h. HasFault c.in-Err-Refused.fault fault (h
    ∙ ap (refused_comment c.args.request.format (codes "M")) (c.number.ensures
    ∙ ap faults.number c.in-Err-Refused.fault-is))) c.comment.ensures
