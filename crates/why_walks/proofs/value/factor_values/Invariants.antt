use Rattle.std.proofs.Common.{◌≡◌, take, map}
use Rattle.std.specs.List.{All}
use Rattle.why_walks.specs.Factors.{factor_steps}
use Rattle.why_walks.specs.Values.{value_part, HasFactorColumn}
use Rattle.why_walks.proofs.value.factor_values.Given as goal

abbrev pub invariant-loop-index : goal.invariant-loop-index
invariant-loop-index l =
    (map value_part l.values.items ≡ map factor_steps (take l.index l.parts.items))
    × All (HasFactorColumn l.inputs l.space) l.values.items
