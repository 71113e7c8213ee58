use Rattle.std.proofs.Common.{arith}
use Rattle.bench_nodes.specs.declared.table.ModelRow.{ModelRow}
use Rattle.bench_parts.specs.Models.{raised_model}
use Rattle.bench_parts.proofs.Stamping.{changed_more}
use Rattle.bench_edits.proofs.commit.raise_models.Goals as goal

pub loop-row-preserved : goal.loop-row-preserved
loop-row-preserved c =
    let none : ModelRow = record { id = 0; stamp = 0 } in
    changed_more (raised_model c.args.last c.args.number) c.args.rows.now c.loop-row.rows
    c.loop-row.row-index none c.raised_model.result (omega arith) c.loop-row.invariant
    c.raised_model.ensures
