use Rattle.std.proofs.Common.{◌≡◌, ◌++◌, ap, sym, ◌∙◌, subst, List, ℕ, arith}
use Rattle.std.specs.Prelude.{OnOk}
use Rattle.std.proofs.lemmas.List.{append-nil}
use Rattle.litmus_printing.specs.Printing.{step_text}
use Rattle.litmus_printing.proofs.Separated.{cell_there, cell_ended}
use Rattle.litmus_printing.proofs.print_table.put_cell.Goals as goal

pub returns-then-number-steps : goal.returns-then-number-steps
returns-then-number-steps c =
    subst (λ (l : List ℕ).
    OnOk c.put_step.result (c.put_step.new.text.items ≡ c.args.text.now.items ++ l))
    (ap step_text c.index-steps-number.is
    ∙ sym (cell_there c.args.number c.args.steps.now c.index-steps-number.result
    (omega arith)))
    c.put_step.ensures

pub returns-else-number-steps : goal.returns-else-number-steps
returns-else-number-steps c =
    sym (ap (λ l. c.args.text.now.items ++ l)
    (cell_ended c.args.number c.args.steps.now (omega arith))
    ∙ append-nil c.args.text.now.items)
