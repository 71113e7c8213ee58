use Rattle.std.proofs.Common.{◌↔◌, arith, sym, subst}
use Rattle.std.specs.Prelude.{IsTrue}
use Rattle.text_values.specs.declared.instruction.Instruction.{Instruction}
use Rattle.meaning.specs.Dependencies.{IsWritten}
use Rattle.plain_events.specs.Slots.{slot_as, instructions_as}
use Rattle.plain_events.proofs.Chaining.{instruction_at, writer_more}
use Rattle.plain_events.proofs.chain.last_writer.Goals as goal

pub loop-index-preserved : goal.loop-index-preserved
loop-index-preserved c =
    writer_more (instructions_as c.args.instances.now) (slot_as c.args.slot.now) c.loop-index.index
    c.is_written-is.result c.loop-index.last c.later-last.result
    (subst (λ (i : Instruction). IsTrue c.is_written-is.result ↔ IsWritten i (slot_as c.args.slot.now))
    (sym (instruction_at c.args.instances.now c.loop-index.index c.index-instances-index.result (omega (arith, c.loop-index-test.true, c.requires))))
    c.is_written-is.ensures)
    c.later-last.ensures c.loop-index.invariant
