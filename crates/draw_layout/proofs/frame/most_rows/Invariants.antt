use Rattle.std.proofs.Common.{◌≡◌, take}
use Rattle.draw_layout.specs.Layout.{most_rows}
use Rattle.draw_layout.proofs.frame.most_rows.Given as goal

abbrev pub invariant-loop-thread : goal.invariant-loop-thread
invariant-loop-thread l = l.most ≡ most_rows (take l.thread-index l.threads)
