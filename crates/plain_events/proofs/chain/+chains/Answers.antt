use Rattle.std.proofs.Common.{◌↔◌, sym, ap, subst, ◌∙◌, true≢false}
use Rattle.text_values.specs.declared.instruction.Instruction.{Instruction}
use Rattle.meaning.specs.Dependencies.{Slot, IsOperand}
use Rattle.plain_events.specs.Slots.{slot_as, instructions_as, passes_of, IsAmong}
use Rattle.plain_events.proofs.Chaining.{instruction_at, sources_grow, fed_grow, slot_grow, one_grow, two_grow}
use Rattle.plain_events.proofs.chain.+chains.Goals as goal

pub put_fed-returns : goal.put_fed-returns
put_fed-returns t c =
    let same = instruction_at c.args.instances.now c.args.index c.index-instances-index.result c.requires in
    fed_grow c.args.passes (instructions_as c.args.instances.now) c.args.index
    c.slots_read-slots.result c.args.sources.now.items c.put_all_sources.new.sources.items
    (λ stops. true≢false (sym (c.is_stopped.ensures.1 (ap (λ (i : Instruction). passes_of c.args.passes i) (sym same) ∙ stops)) ∙ c.if-is_stopped.false))
    (subst (λ (i : Instruction). (p : Slot) → IsAmong c.slots_read-slots.result p ↔ IsOperand i p)
    (sym same) c.slots_read-slots.ensures)
    c.in_ok-put_all_sources.ensures

pub put_sources-returns : goal.put_sources-returns
put_sources-returns t c =
    sources_grow c.args.passes (instructions_as c.args.instances.now) c.args.index
    c.args.sources.now.items c.put_index.new.sources.items c.put_fed.new.sources.items
    c.in_ok-put_index.ensures c.in_ok-put_fed.ensures

pub put_slot_sources-returns-in_ok-put_sources-in-Some : goal.put_slot_sources-returns-in_ok-put_sources-in-Some
put_slot_sources-returns-in_ok-put_sources-in-Some t c =
    slot_grow c.args.passes (instructions_as c.args.instances.now) c.args.index
    (slot_as c.args.slot.now) c.in-Some.writer c.args.sources.now.items
    c.put_sources.new.sources.items c.in-Some.ensures c.in_ok-put_sources-in-Some.ensures

pub put_all_sources-returns-in_ok-put_slot_sources-in-One : goal.put_all_sources-returns-in_ok-put_slot_sources-in-One
put_all_sources-returns-in_ok-put_slot_sources-in-One t c =
    one_grow c.args.passes (instructions_as c.args.instances.now) c.args.index c.args.slots.now
    c.in-One.slot c.args.sources.now.items c.put_slot_sources.new.sources.items c.in-One.is
    c.in_ok-put_slot_sources-in-One.ensures

pub put_all_sources-returns-in_ok-put_slot_sources-in-Two-2 : goal.put_all_sources-returns-in_ok-put_slot_sources-in-Two-2
put_all_sources-returns-in_ok-put_slot_sources-in-Two-2 t c =
    two_grow c.args.passes (instructions_as c.args.instances.now) c.args.index c.args.slots.now
    c.in-Two.first c.in-Two.second c.args.sources.now.items
    c.put_slot_sources-in-Two.new.sources.items c.put_slot_sources-in-Two-2.new.sources.items
    c.in-Two.is c.in_ok-put_slot_sources-in-Two.ensures c.in_ok-put_slot_sources-in-Two-2.ensures
