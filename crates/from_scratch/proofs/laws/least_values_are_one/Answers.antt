use Rattle.cat_machine.specs.Executions.{events_of, EventsAt, PairsAt}
use Rattle.from_scratch.proofs.Sole.{one_least}
use Rattle.from_scratch.proofs.laws.least_values_are_one.Goals as goal

pub returns : goal.returns
returns c =
    λ one inputs index trees values others. one_least (events_of one)
    (EventsAt (events_of one) one inputs index) (PairsAt (events_of one) one inputs index) trees
    values others
