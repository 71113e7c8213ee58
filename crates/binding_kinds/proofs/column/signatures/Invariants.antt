use Rattle.std.proofs.Common.{◌≤◌, ◌^◌, List}
use Rattle.binding_kinds.specs.declared.kinds.Kind.{Kind}
use Rattle.binding_kinds.specs.declared.signature.Signature.{Signature}
use Rattle.binding_kinds.specs.Combinations.{unknown}
use Rattle.binding_kinds.specs.Columns.{IsFilled, of_function}
use Rattle.binding_kinds.proofs.column.signatures.Given as goal

abbrev pub invariant-loop-combination : goal.invariant-loop-combination
invariant-loop-combination l =
    (made : List Kind → Signature) → IsFilled unknown l.arity (3 ^ l.arity) made l.column
    → l.arity ≤ 8
    → IsFilled unknown l.arity l.combination (λ kinds. of_function kinds (made kinds))
    l.table.items
