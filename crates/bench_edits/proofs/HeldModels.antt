-- The models of orderly parts are held: the parts of their items hold what these say.
use Rattle.std.proofs.Common.{ℕ, suc, ◌≡◌, ◌+◌, ◌<◌, inl, inr, List, [], ◌∷◌, length, Some, option_map, slice_get, sym, ap, subst, arith}
use Rattle.std.proofs.lemmas.Option.{slice_get_cases, slice_get-get_or}
use Rattle.text_values.specs.declared.test.Test.{Test}
use Rattle.text_values.specs.declared.model.Item.{Item}
use Rattle.text_values.specs.ModelValues.{clause_of}
use Rattle.memo_core.specs.Step.{Has}
use Rattle.bench_texts.specs.declared.model.NamedModel.{NamedModel}
use Rattle.bench_texts.specs.declared.reading.Reading.{Reading}
use Rattle.bench_texts.specs.declared.reading.Reading.TheVariants as readings
use Rattle.bench_nodes.specs.declared.table.ModelRow.{ModelRow}
use Rattle.bench_slices.specs.Slices.{clause_at}
use Rattle.bench_slots.specs.Slots.{number_at}
use Rattle.bench_parts.specs.declared.parts.Parts.{Parts}
use Rattle.bench_parts.specs.Contents.{parts_state}
use Rattle.bench_parts.specs.Written.{WrittenState, IsWholeState}
use Rattle.bench_parts.proofs.Saying.{text_known}
use Rattle.bench_edits.specs.BenchCells.{HoldsText, HoldsModel}
use Rattle.bench_edits.specs.Kept.{numbers_in, IsKeptState}
use Rattle.bench_edits.specs.Left.{AreOrderlyParts}
use Rattle.bench_edits.specs.Owed.{item_numbers}
use Rattle.bench_edits.specs.Readings.{reading_by, written_model, written_models, written_state}
use Rattle.bench_edits.proofs.Facts.{each_item_has_number}
use Rattle.bench_edits.proofs.Kept.{parts_kept}
use Rattle.bench_edits.proofs.Wholes.{readings_are, parts_whole}

-- a number above some
abbrev above : List ℕ → ℕ
above [] = 0
above (n ∷ ns) = suc n + above ns

all_below : (ns : List ℕ) (n : ℕ) → Has ns n → n < above ns
all_below [] n h = absurd h
all_below (k ∷ ns) n (inl e) = omega (arith, e)
all_below (k ∷ ns) n (inr h) = let lt = all_below ns n h in omega (arith, lt)

item_there : (xs : List Item) (k : ℕ) → k < length xs → (x : Item) × (slice_get xs k ≡ Some x)
item_there xs k lt = elim (slice_get_cases xs k).1 [
  | inl there ↦ (there.0, there.2)
  | inr past ↦ absurd (omega (arith, lt, past.0))
]

module _ (p : Parts) (tests : List Test) (models : List NamedModel) (next : ℕ)
    (o : AreOrderlyParts p tests models) where
  abbrev here : ℕ → WrittenState
  here last = written_state p tests models last

  abbrev low : ℕ
  low = above (item_numbers models)

  whole : IsWholeState (here low)
  whole =
      parts_whole p tests models low o.parts_are (record {
        read = o.read;
        apart = o.items_apart;
        low = all_below (item_numbers models);
      })

  module _ (row : ModelRow) (m : NamedModel)
      (there : Has (written_models p.table.models.items models) (written_model row m)) where
    text_at : (index : ℕ) → index < length m.numbers.items
        → HoldsText (here next) (number_at m.numbers.items index)
        (clause_at m.text.items.items index)
    text_at index lt =
        let x = item_there m.text.items.items index (omega (arith, lt, each_item_has_number m)) in
        let at = slice_get-get_or m.numbers.items index 0 lt in (
          clause_of x.0,
          ap (option_map clause_of) x.1,
          text_known (here low) whole (written_model row m) index
              (number_at m.numbers.items index) x.0 there at x.1,
        )

    texts : (rd : Reading) (index : ℕ)
        → index < length (numbers_in (reading_by row.id m.numbers.items rd))
        → HoldsText (here next)
        (number_at (numbers_in (reading_by row.id m.numbers.items rd)) index)
        (clause_at m.text.items.items index)
    texts (readings.Sound resolved used) index lt = text_at index lt
    texts (readings.Faulty fault) index lt = absurd (omega (arith, lt))

    pub model_held : HoldsModel (here next) (written_model row m)
    model_held = record {
      kept =
          subst (IsKeptState (parts_state p tests)) (sym (readings_are p.table.models.items models))
          (parts_kept p tests models o).kept;
      there = there;
      texts = texts m.reading;
    }
