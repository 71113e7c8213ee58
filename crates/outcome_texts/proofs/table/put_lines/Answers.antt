use Rattle.std.proofs.Common.{◌<◌, length, arith}
use Rattle.std.specs.Prelude.{slice_index}
use Rattle.outcome_texts.specs.Columns.{line_from}
use Rattle.outcome_texts.proofs.Loops.{printed_more, printed_all}
use Rattle.outcome_texts.proofs.table.put_lines.Goals as goal

pub loop-line-preserved : goal.loop-line-preserved
loop-line-preserved c =
    let inside : c.loop-line.line-index < length c.args.lines.now = omega (arith, c.loop-line-test.true) in
    printed_more (line_from (slice_index c.args.widths.now) 0) _ _ _ c.args.lines.now
    c.loop-line.line-index c.line-item.result inside c.line-item.is c.loop-line.invariant
    c.in_ok-put_line.ensures

pub returns : goal.returns
returns c =
    printed_all (line_from (slice_index c.args.widths.now) 0) _ _ c.args.lines.now
    c.loop-line.line-index (omega (arith, c.loop-line-test.false)) c.loop-line.invariant
