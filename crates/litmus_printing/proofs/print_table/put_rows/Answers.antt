use Rattle.std.proofs.Common.{ap, ◌∙◌, ◌+◌, ◌-◌, ◌++◌}
use Rattle.std.specs.Prelude.{map}
use Rattle.text_values.specs.TestValue.{thread_steps}
use Rattle.litmus_printing.specs.Printing.{rows_text}
use Rattle.litmus_printing.proofs.Separated.{rows_more}
use Rattle.litmus_printing.proofs.print_table.put_rows.Goals as goal

pub loop-number-preserved : goal.loop-number-preserved
loop-number-preserved c =
    ap
    (λ l. l
    ++ rows_text (c.loop-number.number + 1)
    (c.longest-most.result - (c.loop-number.number + 1))
    (map thread_steps c.args.threads.now)) c.in_ok-put_row.ensures
    ∙ rows_more c.loop-number.text.items c.loop-number.number c.longest-most.result
    (map thread_steps c.args.threads.now) c.loop-number-test.true
    ∙ c.loop-number.invariant
