use Rattle.std.proofs.Common.{ℕ, ◌≡◌, ◌<◌, slice_index_or}
use Rattle.cat_eval.specs.declared.table.Entry.{Entry}
use Rattle.cat_eval.proofs.table.column_in.Given as goal

abbrev pub invariant-loop-entry : goal.invariant-loop-entry
invariant-loop-entry l =
    (j : ℕ) → j < l.entry-index → (d : Entry) → (slice_index_or l.entries j d).name ≡ l.name → ⊥
