use Rattle.std.proofs.Common.{ℕ, ◌<◌, Vec, Contains, slice_index_or}
use Rattle.std.specs.declared.alloc.Global.{Global}
use Rattle.cat_eval.specs.declared.table.Entry.{Entry}
use Rattle.cat_eval.specs.Tables.{entry_names}
use Rattle.cat_eval.proofs.table.Table.column.Given as goal

abbrev pub invariant-loop-block : goal.invariant-loop-block
invariant-loop-block l =
    (b : ℕ) → b < l.block-index → (d : Vec Entry Global)
    → Contains (entry_names (slice_index_or l.self.blocks.items b d).items) l.name → ⊥
