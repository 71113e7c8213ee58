use Rattle.std.proofs.Common.{◌≡◌, ℕ, ◌≤◌, ◌++◌, take, drop, length, All}
use Rattle.text_values.specs.ModelValues.{clauses_of}
use Rattle.watch_edits.specs.Changes.{with_changes, IsBeforeEnd, IsNeededChange}
use Rattle.watch_edits.proofs.items.set_items.Given as goal

abbrev pub invariant-loop-index : goal.invariant-loop-index
invariant-loop-index l =
    (with_changes (clauses_of l.new) l.changes.items (clauses_of l.old)
    ≡ take l.index (clauses_of l.new) ++ drop l.index (clauses_of l.old)) ×
    ((s : ℕ) → s ≤ l.end → All (IsBeforeEnd (length l.old) (length l.new) s) l.changes.items) ×
    All (IsNeededChange (clauses_of l.old) (clauses_of l.new)) l.changes.items
