use Rattle.std.proofs.Common.{List, length, refl, option_map, ap, ◌∙◌}
use Rattle.text_values.specs.declared.test.Thread.{Thread}
use Rattle.bench_nodes.specs.declared.table.TestRow.{TestRow}
use Rattle.bench_parts.specs.Tests.{entry_of}
use Rattle.bench_parts.proofs.TestRows.{row_stamps}
use Rattle.bench_parts.proofs.test_rows.test_row.Goals as goal

pub returns : goal.returns
returns c =
    let row : TestRow = record { id = c.args.id; condition = c.condition_stamp.result; observed = c.observed_stamp.result; locations = c.locations_stamp.result; init = c.init_stamp.result; threads = c.in_ok-threads.threads } in
    record {
      id_is = refl;
      stamps =
          row_stamps c.args.fresh (option_map (λ h. entry_of h.now) c.args.before) c.args.test.now
          c.args.locations.now row
          c.condition_stamp.ensures
          (rw c.deref-2.ensures.value at c.observed_stamp.ensures)
          c.locations_stamp.ensures
          (rw c.deref-3.ensures.value at c.init_stamp.ensures)
          (rw c.deref.ensures.value at c.in_ok-threads.ensures.each);
      each_thread =
          c.in_ok-threads.ensures.count
          ∙ ap (λ (ts : List Thread). length ts) c.deref.ensures.value;
    }
