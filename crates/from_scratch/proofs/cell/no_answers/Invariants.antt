use Rattle.std.proofs.Common.{◌≡◌, ℕ, ◌<◌, [], Vec, Global, vec_len, slice_index_or}
use Rattle.cat_machine.specs.declared.column.Column.{Column}
use Rattle.from_scratch.proofs.cell.no_answers.Given as goal

abbrev pub invariant-items : goal.invariant-items
invariant-items l = record {
  count : vec_len l.columns ≡ l._at;
  empty : (j : ℕ) → j < l._at → (d : Vec Column Global)
      → (slice_index_or l.columns.items j d).items ≡ [];
}
