use Rattle.std.proofs.Common.{ℕ, ◌↔◌, drop}
use Rattle.base_names.specs.Known.{PairsUnder}
use Rattle.base_names.proofs.names.find_shared.Given as goal

abbrev pub invariant-loop-one : goal.invariant-loop-one
invariant-loop-one l =
    (n a b : ℕ)
    → PairsUnder (drop l.one-index l.shared) l.name n a b ↔ PairsUnder l.shared l.name n a b
