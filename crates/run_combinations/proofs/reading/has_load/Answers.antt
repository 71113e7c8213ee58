use Rattle.std.proofs.Common.{arith, rules, tests}
use Rattle.store_orders.specs.Events.{is_load}
use Rattle.run_combinations.proofs.Gathering.{has_number, number_within}
use Rattle.run_combinations.proofs.reading.has_load.Goals as goal

pub returns-then-number-events : goal.returns-then-number-events
returns-then-number-events c =
    has_number is_load c.args.events.now c.args.number _ c.is_read.result
    (omega (arith, c.if-number-events.true)) c.is_read.ensures

pub returns-else-number-events : goal.returns-else-number-events
returns-else-number-events c = (
  λ t. absurd (search (rules, tests)),
  λ h. absurd (omega (
    arith,
    c.if-number-events.false,
    number_within is_load c.args.events.now c.args.number h,
  )),
)
