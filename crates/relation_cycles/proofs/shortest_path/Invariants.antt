use Rattle.std.proofs.Common.{ℕ, ◌<◌}
use Rattle.bit_rows.specs.Relation.{Has}
use Rattle.relation_cycles.specs.Cycles.{IsReachableIn}
use Rattle.relation_cycles.proofs.shortest_path.Given as goal

abbrev pub invariant-loop-steps : goal.invariant-loop-steps
invariant-loop-steps l = (k : ℕ) → k < l.steps → IsReachableIn (Has l.relation) k l.from l.to → ⊥
