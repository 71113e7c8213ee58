use Rattle.std.proofs.Common.{ℕ, ◌<◌}
use Rattle.bit_rows.specs.Relation.{Has}
use Rattle.relation_cycles.proofs.first_reflexive.Given as goal

abbrev pub invariant-loop-event : goal.invariant-loop-event
invariant-loop-event l = (b : ℕ) → b < l.event → Has l.relation b b → ⊥
