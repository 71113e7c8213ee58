use Rattle.std.proofs.Common.{ℕ, List, Bor, nat_cmp, sym, ap, ◌∙◌}
use Rattle.std.specs.BTreeMap.{get_by}
use Rattle.std.specs.Cmp.Lexicographic.{slice_cmp}
use Rattle.text_values.specs.declared.instruction.Instruction.{Instruction}
use Rattle.litmus_table.specs.Checks.{instruction_rule}
use Rattle.litmus_table.proofs.late.instruction_rule.Goals as goal

pub returns-in-BranchIf : goal.returns-in-BranchIf
returns-in-BranchIf c =
    c.target_rule.ensures
    ∙ ap
    (λ (x : Instruction). instruction_rule
    (λ w. get_by {K = Bor (List ℕ)} (λ k. slice_cmp nat_cmp w k.now)
    c.args.definitions.now) x c.args.i)
    (sym c.in-BranchIf.is)
