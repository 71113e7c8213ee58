use Rattle.std.proofs.Common.{ℕ, List}
use Rattle.binding_kinds.specs.declared.kinds.Kind.{Kind}
use Rattle.binding_kinds.specs.declared.signature.Signature.{Signature}
use Rattle.binding_kinds.specs.Combinations.{unknown}
use Rattle.binding_kinds.specs.Columns.{IsFilled, infix_signature}
use Rattle.binding_kinds.proofs.column.infix_column.Given as goal

abbrev pub invariant-loop-combination : goal.invariant-loop-combination
invariant-loop-combination l =
    (arity rows : ℕ) (first second : List Kind → Signature)
    → IsFilled unknown arity rows first l.left → IsFilled unknown arity rows second l.right
    → IsFilled unknown arity l.combination (λ kinds. infix_signature l.op (first kinds) (second kinds))
    l.column.items
