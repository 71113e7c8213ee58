use Rattle.std.proofs.Common.{inl}
use Rattle.std.proofs.lemmas.Result.{IfOk-weaker}
use Rattle.why_text.proofs.runs.all_runs.Goals as goal

pub returns-in-Ok : goal.returns-in-Ok
returns-in-Ok c =
    IfOk-weaker c.runs_over.result _ _
    (λ v h. inl (c.in-Ok.domain.values.items, c.in-Ok.ensures.domain, h)) c.runs_over.ensures
