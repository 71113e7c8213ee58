use Rattle.std.proofs.Common.{◌∙◌, ap}
use Rattle.std.specs.Prelude.{codes}
use Rattle.std.proofs.lemmas.Result.{IfOk-weaker}
use Rattle.ppc_lowering.specs.Numbers as refusals
use Rattle.why_forbidden.specs.Drawings.{HasGraphs, HasNoSpace, refused_comment}
use Rattle.why_forbidden.proofs.drawing.resolved_text.Goals as goal

pub returns-in-Ok : goal.returns-in-Ok
returns-in-Ok c =
    IfOk-weaker c.space_text.result _ _ (λ v h. HasGraphs c.requires.faultless h)
    c.space_text.ensures

pub returns-in-Err-Refused : goal.returns-in-Err-Refused
returns-in-Err-Refused c =
    let refused = rw c.in-Err-Refused.field-0-is at c.in-Err-Refused.ensures.refused in
    IfOk-weaker c.comment.result _ _
    (λ v h. HasNoSpace c.requires.faultless c.in-Err-Refused.refusal refused
    (h
    ∙ ap (refused_comment c.args.request.format (codes "E")) (c.number.ensures
    ∙ ap refusals.number c.in-Err-Refused.refusal-is))) c.comment.ensures
