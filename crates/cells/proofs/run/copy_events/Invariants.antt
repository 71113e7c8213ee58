use Rattle.std.proofs.Common.{take}
use Rattle.std.specs.List.{AllZip}
use Rattle.cells.specs.Events.{IsSameEvent}
use Rattle.cells.proofs.run.copy_events.Given as goal

abbrev pub invariant-loop-event : goal.invariant-loop-event
invariant-loop-event g l =
    AllZip (IsSameEvent g.T.CellTexts.same_edit) l.copies.items (take l.event-index l.events)
