use Rattle.std.proofs.Common.{ℕ, List}
use Rattle.binding_kinds.specs.declared.kinds.Kind.{Kind}
use Rattle.binding_kinds.specs.declared.column.Gathered.{Gathered}
use Rattle.binding_kinds.specs.Combinations.{unknown}
use Rattle.binding_kinds.specs.Columns.{IsFilled, none_gathered, of_applied}
use Rattle.binding_kinds.proofs.column.applied_column.Given as goal

abbrev pub invariant-loop-known : goal.invariant-loop-known
invariant-loop-known l =
    (arity rows : ℕ) (known : List Kind → Gathered) → IsFilled none_gathered arity rows known l.all
    → IsFilled unknown arity l.known-index (λ kinds. of_applied l.function (known kinds))
    l.column.items
