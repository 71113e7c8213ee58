use Rattle.std.proofs.Common.{◌≡◌, ◌++◌, take}
use Rattle.taints.specs.DependencyLists.{renumbered_pairs}
use Rattle.taints.proofs.lists.add_pairs.Given as goal

abbrev pub invariant-loop-from : goal.invariant-loop-from
invariant-loop-from l =
    l.pairs.items ≡ l.initial.pairs.items ++ renumbered_pairs l.base (take l.from-index l.more)
