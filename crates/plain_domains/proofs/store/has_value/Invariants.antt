use Rattle.std.proofs.Common.{map, take, Contains}
use Rattle.plain_machine.specs.Values.{value_as}
use Rattle.plain_domains.proofs.store.has_value.Given as goal

abbrev pub invariant-loop-one : goal.invariant-loop-one
invariant-loop-one l = Contains (take l.one-index (map value_as l.values)) (value_as l.value) → ⊥
