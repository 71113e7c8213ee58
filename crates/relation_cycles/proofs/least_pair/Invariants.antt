use Rattle.std.proofs.Common.{ℕ, ◌<◌}
use Rattle.bit_rows.specs.Relation.{Has}
use Rattle.relation_cycles.proofs.least_pair.Given as goal

abbrev pub invariant-loop-from : goal.invariant-loop-from
invariant-loop-from l = (x y : ℕ) → x < l.from → Has l.relation x y → ⊥

abbrev pub invariant-loop-to : goal.invariant-loop-to
invariant-loop-to l = (y : ℕ) → y < l.to → Has l.relation l.from y → ⊥
