use Rattle.meaning_executions.proofs.Totals.{events_are, loads_are}
use Rattle.meaning_executions.proofs.texts_are_as_long.Goals as goal

pub returns : goal.returns
returns c = record { events = λ t p of. events_are t p of; loads = λ t p of. loads_are t p of }
