use Rattle.std.proofs.Common.{◌≡◌, take}
use Rattle.draw_layout.specs.Layout.{longest_in}
use Rattle.draw_layout.proofs.frame.longest_in.Given as goal

abbrev pub invariant-loop-label : goal.invariant-loop-label
invariant-loop-label l = l.most ≡ longest_in l.initial.most (take l.label-index l.labels)
