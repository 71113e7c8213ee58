use Rattle.std.proofs.Common.{◌↔◌, ℕ, List, Contains, sym, ap, subst, ◌∙◌}
use Rattle.std.specs.Prelude.{IsTrue}
use Rattle.text_values.specs.declared.instruction.Instruction.{Instruction}
use Rattle.meaning.specs.Machine.{is_load}
use Rattle.plain_events.specs.Slots.{instructions_as}
use Rattle.plain_events.proofs.Chaining.{instruction_at}
use Rattle.plain_events.proofs.Depending.{load_reaches}
use Rattle.plain_events.proofs.dependency.is_reaching.Goals as goal

pub returns : goal.returns
returns c =
    load_reaches (instructions_as c.args.instances.now) c.args.from c.args.to c.args.passes
    c.args.reads c.in_ok-sources.sources.items c.is_load-loads.result c.is_among-reaches.result
    c.both-is.result
    (c.is_load-loads.ensures ∙ ap (λ (i : Instruction). is_load i) (sym (instruction_at c.args.instances.now c.args.from c.index-instances-from.result c.requires.from)))
    c.in_ok-sources.ensures
    (subst (λ (l : List ℕ). IsTrue c.is_among-reaches.result ↔ Contains l c.args.from)
    c.deref.ensures.value c.is_among-reaches.ensures)
    c.both-is.ensures
