use Rattle.std.proofs.Common.{inr}
use Rattle.std.proofs.lemmas.Result.{IfOk-weaker}
use Rattle.why_forbidden.proofs.telling.round.Goals as goal

pub returns-in-None : goal.returns-in-None
returns-in-None c =
    let no_steps = rw c.in-None.is at c.in_ok-starts.ensures in
    IfOk-weaker c.starts_at.result _ _ (λ v starts. inr (starts, no_steps)) c.starts_at.ensures
