use Rattle.plain_events.specs.Slots.{instructions_as}
use Rattle.plain_events.specs.Reaching.{IsIsyncOn, IsSoBefore}
use Rattle.plain_events.proofs.dependency.has_isync_before.Given as goal

abbrev pub invariant-loop-index : goal.invariant-loop-index
invariant-loop-index l = IsSoBefore (IsIsyncOn (instructions_as l.instances) l.from) l.index → ⊥
