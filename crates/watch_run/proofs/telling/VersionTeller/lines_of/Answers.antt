use Rattle.watch_run.proofs.Told.{version_told}
use Rattle.watch_run.proofs.telling.VersionTeller.lines_of.Goals as goal

pub returns-in-Some-clause-told : goal.returns-in-Some-clause-told
returns-in-Some-clause-told g c =
    version_told _ _ c.in-Some.index _ _ _ c.model_lines.result c.in-Some.ensures.at
    c.model_lines.ensures.told
