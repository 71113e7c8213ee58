use Rattle.std.proofs.Common.{◌≡◌, drop}
use Rattle.bench_nodes.specs.Touched.{rows_of, new_rows, keep_stamps}
use Rattle.bench_nodes.proofs.touched.keep_stamps.Given as goal

abbrev pub invariant-loop-key : goal.invariant-loop-key
invariant-loop-key l =
    keep_stamps (rows_of l.table) (new_rows l.new) (drop l.key-index l.keys)
    ≡ keep_stamps (rows_of l.table) (new_rows l.new) l.keys
