use Rattle.std.proofs.Common.{ℕ, ◌↔◌, drop}
use Rattle.base_names.specs.Known.{EventsUnder}
use Rattle.base_names.proofs.names.find_set.Given as goal

abbrev pub invariant-loop-named : goal.invariant-loop-named
invariant-loop-named l =
    (n a : ℕ) → EventsUnder (drop l.named-index l.sets) l.name n a ↔ EventsUnder l.sets l.name n a
