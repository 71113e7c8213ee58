use Rattle.std.proofs.Common.{ℕ, ◌<◌, List}
use Rattle.binding_kinds.specs.declared.kinds.Kind.{Kind}
use Rattle.binding_kinds.specs.declared.signature.Signature.{Signature}
use Rattle.binding_kinds.specs.declared.column.Gathered.{Gathered}
use Rattle.binding_kinds.specs.Combinations.{unknown}
use Rattle.binding_kinds.specs.Columns.{IsFilled, none_gathered, with_one}
use Rattle.binding_kinds.proofs.column.with_argument.Given as goal

abbrev pub invariant-loop-combination : goal.invariant-loop-combination
invariant-loop-combination l =
    (arity rows : ℕ) (before : List Kind → Gathered) (more : List Kind → Signature) → l.index < 8
    → ((kinds : List Kind) → (before kinds).combination < 6561)
    → IsFilled none_gathered arity rows before l.all → IsFilled unknown arity rows more l.one
    → IsFilled none_gathered arity l.combination
    (λ kinds. with_one l.index (before kinds) (more kinds)) l.column.items
