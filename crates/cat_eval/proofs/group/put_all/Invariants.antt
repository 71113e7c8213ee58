use Rattle.std.proofs.Common.{ℕ, ◌≡◌, ◌<◌, ◌≤◌, length, slice_index_or}
use Rattle.bit_rows.specs.Relation.{Events, no_slot}
use Rattle.cat_machine.specs.declared.column.Column.{Column}
use Rattle.cat_eval.specs.Wanted.{is_wanted, AddsIf}
use Rattle.cat_eval.proofs.group.put_all.Given as goal

abbrev pub invariant-loop-position : goal.invariant-loop-position
invariant-loop-position l =
    (length l.columns.items ≡ length l.initial.columns.items)
    × ((j : ℕ) → j < l.position → j < length l.initial.columns.items → (c : Column)
    → (s : Events)
    × AddsIf (is_wanted l.wanted j) (slice_index_or l.initial.columns.items j c)
    (slice_index_or l.columns.items j c) s (slice_index_or l.values j no_slot))
    × ((j : ℕ) → l.position ≤ j → (c : Column)
    → slice_index_or l.columns.items j c ≡ slice_index_or l.initial.columns.items j c)
