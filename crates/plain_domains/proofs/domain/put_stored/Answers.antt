use Rattle.std.proofs.Common.{sym}
use Rattle.plain_machine.specs.Values.{value_as}
use Rattle.plain_runs.specs.Runs.{instance_as}
use Rattle.plain_domains.proofs.Rounds.{stored_none, stored_some}
use Rattle.plain_domains.proofs.domain.put_stored.Goals as goal

pub returns-in-None : goal.returns-in-None
returns-in-None c =
    stored_none (instance_as c.args.instance.now) c.args.values.now.items (sym c.in-None.ensures)

pub returns-in_ok-put_real-in-Some : goal.returns-in_ok-put_real-in-Some
returns-in_ok-put_real-in-Some c =
    stored_some (instance_as c.args.instance.now) (value_as c.in-Some.value)
    c.args.values.now.items _ (sym c.in-Some.ensures) c.in_ok-put_real-in-Some.ensures
