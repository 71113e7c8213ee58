use Rattle.std.proofs.Common.{ℕ, ◌<◌, ◌≤◌, slice_index_or}
use Rattle.cat_machine.specs.declared.seen.NamedColumn.{NamedColumn}
use Rattle.cat_machine.specs.Steady.{HasSame}
use Rattle.cat_eval.proofs.steady.named_until.Given as goal

abbrev pub invariant-loop-one : goal.invariant-loop-one
invariant-loop-one l =
    (k : ℕ) → l.candidate ≤ k → k < l.until → (index : ℕ) → index < l.one-index → (d : NamedColumn)
    → HasSame (slice_index_or l.named index d).column.now l.candidate k
