use Rattle.std.proofs.Common.{sym, ap, ◌∙◌}
use Rattle.text_values.specs.declared.instruction.Instruction.{Instruction}
use Rattle.meaning.specs.Dependencies.{IsCtrl, is_isync}
use Rattle.plain_events.specs.Slots.{instructions_as}
use Rattle.plain_events.proofs.Chaining.{instruction_at}
use Rattle.plain_events.proofs.Depending.{so_on}
use Rattle.plain_events.proofs.dependency.is_isync_on.Goals as goal

pub returns : goal.returns
returns c =
    so_on (IsCtrl (instructions_as c.args.instances.now) c.args.from c.args.index)
    c.is_isync-fences.result (is_isync (instructions_as c.args.instances.now c.args.index))
    c.in_ok-depends.depends c.both-is.result
    (c.is_isync-fences.ensures ∙ ap (λ (i : Instruction). is_isync i) (sym (instruction_at c.args.instances.now c.args.index c.index-instances-index.result c.requires.index)))
    c.in_ok-depends.ensures c.both-is.ensures
