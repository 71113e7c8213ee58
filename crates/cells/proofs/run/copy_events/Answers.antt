use Rattle.std.proofs.Common.{◌≡◌, ◌<◌, ◌+◌, ◌++◌, ◌∷◌, [], List, take, length, ap, subst, sym, ◌∙◌, arith, rules}
use Rattle.std.proofs.lemmas.List.{take_more}
use Rattle.std.specs.List.{AllZip}
use Rattle.cells.specs.declared.events.Event.{Event}
use Rattle.cells.specs.Events.{IsSameEvent}
use Rattle.cells.proofs.SameEvents.{zip_last}
use Rattle.cells.proofs.run.copy_events.Goals as goal

pub loop-event-preserved : goal.loop-event-preserved
loop-event-preserved g c =
    let same : IsSameEvent g.T.CellTexts.same_edit c.in_ok-copy_event.field-0 c.event-item.result = search rules in
    let lt : c.loop-event.event-index < length c.args.events.now = omega arith in
    let more : take (c.loop-event.event-index + 1) c.args.events.now ≡ take c.loop-event.event-index c.args.events.now ++ c.event-item.result ∷ [] =
    take_more c.args.events.now c.loop-event.event-index c.event-item.result lt
    ∙ ap
    (λ (e : Event g.row.T-Edit.Denot). take c.loop-event.event-index c.args.events.now
    ++ e ∷ [])
    (sym c.event-item.is) in
    subst
    (λ (es : List (Event g.row.T-Edit.Denot)). AllZip (IsSameEvent g.T.CellTexts.same_edit) es
    (take (c.loop-event.event-index + 1) c.args.events.now))
    (sym c.in_ok-push.ensures.items)
    (subst
    (λ (es : List (Event g.row.T-Edit.Denot)). AllZip (IsSameEvent g.T.CellTexts.same_edit)
    (c.loop-event.copies.items ++ c.in_ok-copy_event.field-0 ∷ []) es)
    (sym more)
    (zip_last (IsSameEvent g.T.CellTexts.same_edit) c.loop-event.copies.items
    (take c.loop-event.event-index c.args.events.now) c.in_ok-copy_event.field-0
    c.event-item.result c.loop-event.invariant same))
