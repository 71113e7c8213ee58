use Rattle.bench_laws.proofs.Locked.{just_its_cells, shown_right, unreached_kept, low_memos}
use Rattle.bench_laws.proofs.laws.locked_benches_are_right.Goals as goal

pub returns : goal.returns
returns c = record {
  there = just_its_cells;
  shown = shown_right c.right_benches.ensures;
  kept = unreached_kept;
  low = low_memos;
}
