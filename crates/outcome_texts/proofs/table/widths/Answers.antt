use Rattle.std.proofs.Common.{rules, get_or, ap, ◌∙◌, arith}
use Rattle.std.proofs.lemmas.List.{take_all}
use Rattle.outcome_texts.specs.Columns.{column_width}
use Rattle.outcome_texts.proofs.Widths.{line_more}
use Rattle.outcome_texts.proofs.table.widths.Goals as goal

pub loop-line-preserved : goal.loop-line-preserved
loop-line-preserved c =
    line_more c.args.lines.now c.loop-line.line-index c.line-item.result
    (λ k. get_or c.loop-line.widths.items k 0) (λ k. get_or c.widen.new.widths.items k 0)
    (search rules) (search rules) c.loop-line.invariant (search rules)

pub returns : goal.returns
returns c =
    λ k. c.loop-line.invariant k
    ∙ ap (λ ls. column_width ls k) (take_all c.loop-line.line-index c.args.lines.now
    (omega (arith, c.loop-line-test.false)))
