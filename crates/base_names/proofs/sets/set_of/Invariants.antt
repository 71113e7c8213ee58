use Rattle.std.proofs.Common.{◌<◌}
use Rattle.bit_rows.specs.Relation.{IsEvents}
use Rattle.base_names.specs.Events.{At}
use Rattle.base_names.specs.Names.{IsIn}
use Rattle.base_names.proofs.sets.set_of.Given as goal

abbrev pub invariant-loop-number : goal.invariant-loop-number
invariant-loop-number l = IsEvents l.set l.count (λ a. (a < l.number) × At l.events (IsIn l.name) a)
