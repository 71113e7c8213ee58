use Rattle.watch_run.proofs.Told.{model_told}
use Rattle.watch_run.proofs.telling.VersionTeller.model_lines.Goals as goal

pub returns-clause-told : goal.returns-clause-told
returns-clause-told g c =
    model_told _ _ c.in_ok-refusal.refusal c.is_empty.result c.in_ok-fault.fault.items _ _
    c.noted.result c.in_ok-refusal.ensures c.is_empty.ensures c.if-not-is_empty.false
    c.in_ok-fault.ensures c.noted.ensures.told
