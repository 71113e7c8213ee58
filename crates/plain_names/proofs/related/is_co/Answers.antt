use Rattle.std.proofs.Common.{◌↔◌, List, Vec, subst}
use Rattle.std.specs.Prelude.{IsTrue}
use Rattle.std.specs.declared.alloc.Global.{Global}
use Rattle.plain_events.specs.declared.event.Event as code
use Rattle.plain_events.specs.Events.{event_as}
use Rattle.plain_executions.specs.Executions.{event_lists_as, execution_as}
use Rattle.plain_names.specs.Related.{AreOrdered}
use Rattle.plain_names.proofs.Relating.{coherent_as}
use Rattle.plain_names.proofs.related.is_co.Goals as goal

pub returns : goal.returns
returns c =
    let a = event_as c.args.first.now in
    let b = event_as c.args.second.now in
    coherent_as (execution_as c.args.execution.now) a b c.is_coherent.result
    (subst (λ (l : List (Vec code.Event Global)). IsTrue c.is_coherent.result ↔ AreOrdered (event_lists_as l) a b)
    c.deref.ensures.value c.is_coherent.ensures)
