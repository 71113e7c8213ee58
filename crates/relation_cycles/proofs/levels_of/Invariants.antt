use Rattle.bit_rows.specs.Relation.{room_of}
use Rattle.relation_cycles.proofs.Steps.{IsGrowing}
use Rattle.relation_cycles.proofs.levels_of.Given as goal

abbrev pub invariant-growing : goal.invariant-growing
invariant-growing l = IsGrowing l.relation l.level l.levels.items

abbrev pub decreases-growing : goal.decreases-growing
decreases-growing l = room_of l.level
