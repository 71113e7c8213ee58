use Rattle.std.proofs.Common.{◌<◌}
use Rattle.bit_rows.specs.Relation.{IsEvents}
use Rattle.base_names.specs.Orders.{StandsBetween}
use Rattle.base_names.proofs.reordering.standing_from.Given as goal

abbrev pub invariant-loop-index : goal.invariant-loop-index
invariant-loop-index l =
    IsEvents l.standing l.count (λ a. (a < l.count) × StandsBetween l.order l.from l.index a)
