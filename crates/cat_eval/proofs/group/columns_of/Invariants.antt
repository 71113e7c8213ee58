use Rattle.std.proofs.Common.{ℕ, ◌≡◌, ◌<◌, length, slice_index_or}
use Rattle.binding_graph.specs.declared.resolved.Body.{Body}
use Rattle.cat_machine.specs.declared.column.Column.{Column}
use Rattle.cat_machine.specs.Values.{IsFor, column_len}
use Rattle.cat_eval.proofs.group.columns_of.Given as goal

abbrev pub invariant-loop-body : goal.invariant-loop-body
invariant-loop-body l =
    (length l.columns.items ≡ l.body-index)
    × ((j : ℕ) → j < l.body-index → (b : Body) (c : Column)
    → IsFor (slice_index_or l.bodies j b).code.kind (slice_index_or l.columns.items j c)
    × (column_len (slice_index_or l.columns.items j c) ≡ 0))
