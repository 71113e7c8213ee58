use Rattle.std.proofs.Common.{◌<◌, length, rules}
use Rattle.std.specs.Prelude.{slice_index}
use Rattle.outcome_texts.proofs.Loops.{field_printed}
use Rattle.outcome_texts.proofs.table.put_line.Goals as goal

pub loop-column-preserved : goal.loop-column-preserved
loop-column-preserved c =
    let inside : c.loop-column.column < length c.args.line.now = search rules in
    field_printed (slice_index c.args.widths.now) c.args.line.now c.loop-column.column
    c.as_bytes.result.now _ c.width_at.result _ _ _ inside (search rules) (search rules)
    c.width_at.ensures c.in_ok-put_field.ensures c.loop-column.invariant
