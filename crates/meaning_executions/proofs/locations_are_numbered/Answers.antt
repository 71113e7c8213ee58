use Rattle.meaning_executions.proofs.Located.{numbered}
use Rattle.meaning_executions.proofs.locations_are_numbered.Goals as goal

pub returns : goal.returns
returns c = numbered
