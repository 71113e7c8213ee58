use Rattle.meaning_executions.proofs.Listing.{listed}
use Rattle.meaning_executions.proofs.executions_are_listed.Goals as goal

pub returns : goal.returns
returns c t initial xs h = listed t initial xs h
