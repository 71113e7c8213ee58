use Rattle.std.proofs.Common.{◌≡◌, drop}
use Rattle.bench_parts.specs.States.{keep_kinds}
use Rattle.bench_parts.proofs.owners.keep_kinds.Given as goal

abbrev pub invariant-loop-i : goal.invariant-loop-i
invariant-loop-i l =
    keep_kinds (drop l.i l.items) (drop l.i l.kinds) l.new_items l.new_kinds
    ≡ keep_kinds l.items l.kinds l.new_items l.new_kinds
