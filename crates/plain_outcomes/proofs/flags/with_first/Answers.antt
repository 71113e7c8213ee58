use Rattle.std.proofs.Common.{bytes_eq, not}
use Rattle.plain_runs.specs.Locations.{names_as}
use Rattle.plain_outcomes.proofs.Flagging.{first_more}
use Rattle.plain_outcomes.proofs.flags.with_first.Goals as goal

pub loop-other-preserved : goal.loop-other-preserved
loop-other-preserved c =
    first_more (λ m. not (bytes_eq c.args.name.now m)) c.args.name.now c.args.others.now
    c.loop-other.other-index _ (names_as c.loop-other.names.items) (names_as c.put_other.new.names.items)
    c.loop-other-test.true c.loop-other.invariant c.in_ok-put_other.ensures
