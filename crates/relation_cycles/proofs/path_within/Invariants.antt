use Rattle.bit_rows.specs.Relation.{Has}
use Rattle.relation_cycles.proofs.Steps.{IsTraced}
use Rattle.relation_cycles.proofs.path_within.Given as goal

abbrev pub invariant-tracing : goal.invariant-tracing
invariant-tracing l = IsTraced (Has l.relation) l.from l.to l.steps l.path.items l.at l.left

abbrev pub decreases-tracing : goal.decreases-tracing
decreases-tracing l = l.left
