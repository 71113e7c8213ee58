use Rattle.std.proofs.Common.{◌≡◌, ◌≤◌, List, length, take}
use Rattle.binding_kinds.specs.declared.kinds.Kind.{Kind}
use Rattle.binding_kinds.specs.Combinations.{kinds_number, has_any}
use Rattle.binding_kinds.proofs.signature.has_any.Given as goal

abbrev pub invariant-loop-index : goal.invariant-loop-index
invariant-loop-index l =
    (kinds : List Kind) → l.combination ≡ kinds_number kinds → l.arity ≡ length kinds
    → length kinds ≤ 8 → l.any ≡ has_any (take l.index kinds)
