use Rattle.std.proofs.Common.{List, map, ap}
use Rattle.plain_events.specs.declared.event.Event as code
use Rattle.plain_events.specs.Events.{event_as}
use Rattle.plain_executions.specs.Executions.{execution_as}
use Rattle.plain_names.proofs.Relating.{from_reads}
use Rattle.plain_names.proofs.related.is_fr.Goals as goal

pub returns : goal.returns
returns c =
    from_reads (execution_as c.args.execution.now) c.is_fr_among.result (event_as c.args.first.now)
    (event_as c.args.second.now) (map event_as c.deref.result.now)
    (ap (λ (l : List code.Event). map event_as l) c.deref.ensures.value) c.is_fr_among.ensures
