use Rattle.std.proofs.Common.{List, ◌++◌, map, ap, sym, ◌∙◌}
use Rattle.std.proofs.lemmas.List.{map-append, append-nil}
use Rattle.meaning.specs.Executions.{Event}
use Rattle.plain_events.specs.declared.event.Event as code
use Rattle.plain_events.specs.Events.{event_as}
use Rattle.plain_events.proofs.Combining.{got_none, got_some}
use Rattle.plain_executions.proofs.picked.put_event.Goals as goal

pub returns-then-index-list : goal.returns-then-index-list
returns-then-index-list c =
    let old = map event_as c.args.picked.now.items in
    sym (ap (λ (l : List Event). old ++ l) (got_none event_as c.args.list.now c.args.index c.if-index-list.true) ∙ append-nil old)

pub returns : goal.returns
returns c =
    let old = map event_as c.args.picked.now.items in
    ap (λ (l : List code.Event). map event_as l) c.in_ok-push.ensures.items
    ∙ map-append event_as c.args.picked.now.items _
    ∙ ap (λ (l : List Event). old ++ l) (sym (got_some event_as c.args.list.now c.args.index _ c.if-index-list.false))
