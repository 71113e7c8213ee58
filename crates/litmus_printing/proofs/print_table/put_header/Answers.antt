use Rattle.std.proofs.Common.{ap, ◌∙◌, ◌+◌, ◌-◌, ◌++◌}
use Rattle.std.specs.Prelude.{codes}
use Rattle.std.specs.Fmt.{decimal}
use Rattle.litmus_printing.specs.Printing.{names}
use Rattle.litmus_printing.proofs.Separated.{header_begins, header_more}
use Rattle.text_values.proofs.Separated.{from}
use Rattle.litmus_printing.proofs.print_table.put_header.Goals as goal

pub loop-thread-init : goal.loop-thread-init
loop-thread-init c = ap (λ l. c.args.text.now.items ++ l) (header_begins c.args.threads)

pub loop-thread-preserved : goal.loop-thread-preserved
loop-thread-preserved c =
    ap (λ l. l
    ++ from (codes " | ") (c.loop-thread.thread + 1) (names (c.loop-thread.thread + 1)
    (c.args.threads - (c.loop-thread.thread + 1))))
    (c.in_ok-put_decimal.ensures
    ∙ ap (λ l. l ++ decimal c.loop-thread.thread) (c.in_ok-put_bytes.ensures
    ∙ ap (λ l. l ++ codes "P") c.in_ok-put_between.ensures))
    ∙ header_more c.loop-thread.text.items c.loop-thread.thread c.args.threads
    c.loop-thread-test.true
    ∙ c.loop-thread.invariant
