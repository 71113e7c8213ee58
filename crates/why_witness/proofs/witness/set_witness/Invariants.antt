use Rattle.std.proofs.Common.{ℕ, ◌<◌}
use Rattle.bit_rows.specs.Relation.{IsMember}
use Rattle.why_witness.proofs.witness.set_witness.Given as goal

abbrev pub invariant-loop-event : goal.invariant-loop-event
invariant-loop-event l = (b : ℕ) → b < l.event → IsMember l.set b → ⊥
