use Rattle.std.proofs.Common.{sym, ap, ◌∙◌}
use Rattle.text_values.specs.declared.instruction.Instruction.{Instruction}
use Rattle.meaning.specs.Dependencies.{is_event}
use Rattle.plain_events.specs.Slots.{instructions_as}
use Rattle.plain_events.proofs.Chaining.{instruction_at}
use Rattle.plain_events.proofs.Depending.{isync_before}
use Rattle.plain_events.proofs.dependency.is_ctrlisync.Goals as goal

pub returns : goal.returns
returns c =
    isync_before (instructions_as c.args.instances.now) c.args.from c.args.to c.is_event-does.result
    c.in_ok-depends.depends c.both-is.result
    (c.is_event-does.ensures ∙ ap (λ (i : Instruction). is_event i) (sym (instruction_at c.args.instances.now c.args.to c.index-instances-to.result c.requires.to)))
    c.in_ok-depends.ensures c.both-is.ensures
