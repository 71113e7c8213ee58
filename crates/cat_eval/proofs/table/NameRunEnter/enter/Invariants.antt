use Rattle.std.proofs.Common.{ℕ, ◌≡◌, ◌<◌, ◌≤◌, ◌++◌, ◌∷◌, [], List, length, slice_index_or}
use Rattle.std.specs.Prelude.{IsTrue}
use Rattle.base_names.specs.Known.{Known}
use Rattle.cat_eval.specs.declared.table.Entry.{Entry}
use Rattle.cat_eval.specs.Reordered.{EndsReordered}
use Rattle.cat_machine.specs.Steady.{HasAsLast}
use Rattle.cat_eval.specs.Tables.{IsEntryFilled, AreFilled}
use Rattle.cat_eval.proofs.table.NameRunEnter.enter.Given as goal

abbrev pub invariant-loop-index : goal.invariant-loop-index
invariant-loop-index l =
    (length l.self.entries.items ≡ length l.initial.self.entries.items)
    × ((j : ℕ) (d : Entry)
    → (slice_index_or l.self.entries.items j d).name
    ≡ (slice_index_or l.initial.self.entries.items j d).name)
    × ((j : ℕ) → l.index ≤ j → (d : Entry)
    → slice_index_or l.self.entries.items j d
    ≡ slice_index_or l.initial.self.entries.items j d)
    × ((bases : List Known) → (IsTrue l.again → HasAsLast bases l.base)
    → (IsTrue l.reordered → EndsReordered bases l.base)
    → AreFilled l.initial.self.entries.items bases → (j : ℕ) → j < l.index → (d : Entry)
    → IsEntryFilled (slice_index_or l.self.entries.items j d) (bases ++ l.base ∷ []))
