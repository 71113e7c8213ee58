use Rattle.std.proofs.Common.{rules, get_or}
use Rattle.outcome_texts.proofs.Widths.{field_more}
use Rattle.outcome_texts.proofs.table.widen.Goals as goal

pub loop-column-preserved : goal.loop-column-preserved
loop-column-preserved c = (
  search rules,
  field_more c.args.line.now c.loop-column.column c.as_bytes.result.now
      (λ k. get_or c.args.widths.now.items k 0) (λ k. get_or c.loop-column.widths.items k 0)
      (λ k. get_or c.widen_column.new.widths.items k 0)
      (search rules) (search rules) c.loop-column.invariant.1 (search rules) (search rules),
)
