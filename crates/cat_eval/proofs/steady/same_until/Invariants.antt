use Rattle.std.proofs.Common.{ℕ, ◌<◌, ◌≤◌, slice_index_or}
use denote.Ref.{Bor}
use Rattle.cat_machine.specs.declared.column.Column.{Column}
use Rattle.cat_machine.specs.Steady.{HasSame}
use Rattle.cat_eval.proofs.steady.same_until.Given as goal

abbrev pub invariant-loop-column : goal.invariant-loop-column
invariant-loop-column l =
    (k : ℕ) → l.candidate ≤ k → k < l.until → (index : ℕ) → index < l.column-index
    → (d : Bor Column) → HasSame (slice_index_or l.inputs index d).now l.candidate k
