use Rattle.std.proofs.Common.{ℕ, ◌<◌, ◌≤◌, get_or}
use Rattle.binding_kinds.specs.declared.kinds.Kind.{Kind}
use Rattle.binding_kinds.specs.Combinations.{unknown}
use Rattle.binding_kinds.specs.Columns.{IsFilled, plain}
use Rattle.binding_kinds.proofs.column.parameter_column.Given as goal

abbrev pub invariant-loop-combination : goal.invariant-loop-combination
invariant-loop-combination l =
    (arity : ℕ) (other : Kind) → arity ≤ 8 → l.index < arity
    → IsFilled unknown arity l.combination (λ kinds. plain (get_or kinds l.index other))
    l.column.items
