use Rattle.plain_events.specs.Slots.{slot_as, instructions_as}
use Rattle.plain_events.specs.Reaching.{IsWriterFound}
use Rattle.plain_events.proofs.chain.last_writer.Given as goal

abbrev pub invariant-loop-index : goal.invariant-loop-index
invariant-loop-index l =
    IsWriterFound (instructions_as l.instances) (slot_as l.slot) l.index l.last
