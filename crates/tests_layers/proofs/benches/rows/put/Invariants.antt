use Rattle.std.proofs.Common.{◌≡◌, ◌++◌, take, drop}
use Rattle.tests_layers.specs.Rows.{put_row}
use Rattle.tests_layers.proofs.benches.rows.put.Given as goal

abbrev pub invariant-loop-i : goal.invariant-loop-i
invariant-loop-i l =
    record {
      same : l.rows ≡ l.fn.rows;
      rest : take l.i l.rows.items ++ put_row l.name l.value l.number (drop l.i l.rows.items)
          ≡ put_row l.name l.value l.number l.fn.rows.items;
    }
