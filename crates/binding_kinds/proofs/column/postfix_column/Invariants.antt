use Rattle.std.proofs.Common.{ℕ, List}
use Rattle.binding_kinds.specs.declared.kinds.Kind.{Kind}
use Rattle.binding_kinds.specs.declared.signature.Signature.{Signature}
use Rattle.binding_kinds.specs.Combinations.{unknown}
use Rattle.binding_kinds.specs.Columns.{IsFilled, postfix_signature}
use Rattle.binding_kinds.proofs.column.postfix_column.Given as goal

abbrev pub invariant-loop-one : goal.invariant-loop-one
invariant-loop-one l =
    (arity rows : ℕ) (operand : List Kind → Signature) → IsFilled unknown arity rows operand l.inner
    → IsFilled unknown arity l.one-index (λ kinds. postfix_signature (operand kinds)) l.column.items
