use Rattle.std.proofs.Common.{◌≡◌, ◌≤◌, ◌-◌, ◌++◌, take, drop, vec_len}
use Rattle.tests_layers.specs.Rows.{without_row}
use Rattle.tests_layers.proofs.benches.rows.remove.Given as goal

abbrev pub invariant-loop-i : goal.invariant-loop-i
invariant-loop-i l = record {
  rows : take l.i l.rows.items ++ without_row l.name (drop l.i l.rows.items)
      ≡ without_row l.name l.fn.rows.items;
  within : l.i ≤ vec_len l.rows;
}

abbrev pub decreases-loop-i : goal.decreases-loop-i
decreases-loop-i l = vec_len l.rows - l.i
