use Rattle.std.proofs.Common.{ℕ, ◌<◌}
use Rattle.bit_rows.specs.Relation.{Has}
use Rattle.relation_cycles.specs.Cycles.{IsReachableIn}
use Rattle.relation_cycles.proofs.shortest_cycle.Given as goal

abbrev pub invariant-loop-steps : goal.invariant-loop-steps
invariant-loop-steps l = (k : ℕ) → k < l.steps → (a : ℕ) → IsReachableIn (Has l.relation) k a a → ⊥
