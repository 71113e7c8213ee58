use Rattle.std.proofs.Common.{◌∙◌, sym, arith}
use Rattle.std.proofs.lemmas.Bool.Decides.{nat_tests}
use Rattle.text_values.proofs.Bytes.{comment_skips, comment_turn, comment_ends}
use Rattle.text_values.proofs.layout.open_comment.Goals as goal

pub returns-then-depth-eq1-clause-value : goal.returns-then-depth-eq1-clause-value
returns-then-depth-eq1-clause-value c =
    let turn = comment_turn c.args.bytes.now c.loop-i.depth c.loop-i.i (omega arith) in
    let so_far = c.loop-i.invariant.2 in
    grind (arith, nat_tests)

pub loop-i-preserved : goal.loop-i-preserved
loop-i-preserved c =
    let turn = comment_turn c.args.bytes.now c.loop-i.depth c.loop-i.i (omega arith) in
    let skips = comment_skips c.args.bytes.now c.loop-i.depth c.loop-i.i (omega arith) in
    let so_far = c.loop-i.invariant.2 in
    (grind arith, grind arith, grind (arith, nat_tests))

pub returns-clause-value : goal.returns-clause-value
returns-clause-value c =
    sym (c.loop-i.invariant.2
    ∙ comment_ends c.args.bytes.now _ c.loop-i.depth c.loop-i.i (omega arith))
