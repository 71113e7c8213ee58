use Rattle.std.proofs.Common.{ℕ, ◌<◌}
use Rattle.bit_rows.specs.Relation.{Has}
use Rattle.why_walks.proofs.run.least_middle.Given as goal

abbrev pub invariant-loop-event : goal.invariant-loop-event
invariant-loop-event l = (c : ℕ) → c < l.event → Has l.left l.from c → Has l.right c l.to → ⊥
