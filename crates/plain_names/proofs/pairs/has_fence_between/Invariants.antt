use Rattle.std.proofs.Common.{take}
use Rattle.plain_events.specs.Events.{event_as}
use Rattle.plain_names.specs.Related.{HasFenceBetween}
use Rattle.plain_names.proofs.pairs.has_fence_between.Given as goal

abbrev pub invariant-loop-one : goal.invariant-loop-one
invariant-loop-one l =
    HasFenceBetween (take l.one-index l.seen) l.kind (event_as l.first.event) (event_as l.second.event)
    → ⊥
