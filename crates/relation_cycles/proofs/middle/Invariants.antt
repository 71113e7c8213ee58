use Rattle.std.proofs.Common.{◌-◌}
use Rattle.bit_rows.specs.Relation.{Has}
use Rattle.relation_cycles.proofs.Steps.{IsAhead}
use Rattle.relation_cycles.proofs.middle.Given as goal

abbrev pub invariant-loop-event : goal.invariant-loop-event
invariant-loop-event l = IsAhead (Has l.left) (Has l.right) l.from l.to l.left.count l.event

abbrev pub decreases-loop-event : goal.decreases-loop-event
decreases-loop-event l = l.left.count - l.event
