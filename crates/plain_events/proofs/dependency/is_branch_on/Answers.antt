use Rattle.std.proofs.Common.{sym, ap, ◌∙◌}
use Rattle.text_values.specs.declared.instruction.Instruction.{Instruction}
use Rattle.meaning.specs.Machine.{is_branch}
use Rattle.meaning.specs.Dependencies.{LoadReaches, IsOperand, is_link}
use Rattle.plain_events.specs.Slots.{instructions_as}
use Rattle.plain_events.proofs.Chaining.{instruction_at}
use Rattle.plain_events.proofs.Depending.{so_on}
use Rattle.plain_events.proofs.dependency.is_branch_on.Goals as goal

pub returns : goal.returns
returns c =
    so_on (LoadReaches is_link IsOperand (instructions_as c.args.instances.now) c.args.from c.args.index)
    c.is_branch-branches.result (is_branch (instructions_as c.args.instances.now c.args.index))
    c.in_ok-reaches.reaches c.both-is.result
    (c.is_branch-branches.ensures ∙ ap (λ (i : Instruction). is_branch i) (sym (instruction_at c.args.instances.now c.args.index c.index-instances-index.result c.requires.index)))
    c.in_ok-reaches.ensures c.both-is.ensures
