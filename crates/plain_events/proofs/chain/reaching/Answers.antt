use Rattle.std.proofs.Common.{◌↔◌, sym, subst}
use Rattle.text_values.specs.declared.instruction.Instruction.{Instruction}
use Rattle.meaning.specs.Dependencies.{Slot}
use Rattle.plain_events.specs.Slots.{instructions_as, IsAmong, IsReadBy}
use Rattle.plain_events.proofs.Chaining.{instruction_at, read_grow}
use Rattle.plain_events.proofs.chain.reaching.Goals as goal

pub returns : goal.returns
returns c =
    read_grow c.args.passes (instructions_as c.args.instances.now) c.args.index c.args.reads
    c.slots_read-slots.result c.new-sources.result.items c.put_all_sources.new.sources.items
    c.new-sources.ensures.items
    (subst (λ (i : Instruction). (p : Slot) → IsAmong c.slots_read-slots.result p ↔ IsReadBy c.args.reads i p)
    (sym (instruction_at c.args.instances.now c.args.index c.index-instances-index.result c.requires))
    c.slots_read-slots.ensures)
    c.in_ok-put_all_sources.ensures
