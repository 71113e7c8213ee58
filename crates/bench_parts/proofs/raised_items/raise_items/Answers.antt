use Rattle.std.proofs.Common.{slice_index_or, ap, arith}
use Rattle.bench_nodes.specs.declared.table.ItemRow.{ItemRow}
use Rattle.bench_parts.specs.Items.{raised_item}
use Rattle.bench_parts.proofs.ItemStamps.{changed_more}
use Rattle.bench_parts.proofs.raised_items.raise_items.Goals as goal

pub loop-row-preserved : goal.loop-row-preserved
loop-row-preserved c =
    let d : ItemRow = record { number = 0; stamp = 0 } in let row = slice_index_or c.loop-row.rows c.loop-row.row-index d in
    changed_more (raised_item c.args.last c.args.number) c.args.rows.now c.loop-row.rows
    c.loop-row.row-index (record { number = row.number; stamp = c.raised-row.result }) d
    (omega arith) c.loop-row.invariant
    (ap (λ stamp. record { number = row.number; stamp = stamp }) c.raised-row.ensures)
