-- Which edits of the bench make changes.
use Rattle.std.specs.Prelude.{◌≡◌, ℕ, List, slice_index}
use Rattle.std.specs.List.{flat_map}
use Rattle.text_values.specs.ModelValue.{Clause}
use Rattle.cat_printing.specs.Printing.{printed_item}
use Rattle.bench_texts.specs.Edits.{Edit, SetInit, SetThread, SetCond, SetLocations, SetItem, InsertItem, RemoveItem}
use Rattle.watch_edits.specs.declared.items.ItemChange.{ItemChange}
use Rattle.watch_edits.specs.declared.items.ItemChange.TheVariants as changes
use Rattle.watch_edits.specs.Changes.{element_at}

-- the printed item at that index, or no text
abbrev pub item_text : List Clause → ℕ → List ℕ
item_text new i = flat_map printed_item (element_at i new)

-- the edit that makes a change of a model of this name whose items have these numbers (0 behind the
-- last), where these are the items of its new version
abbrev pub item_edit : (name numbers : List ℕ) → List Clause → ItemChange → Edit
item_edit name numbers new (changes.Set i) = SetItem name (slice_index numbers i) (item_text new i)
item_edit name numbers new (changes.Insert i) =
    InsertItem name (slice_index numbers i) (item_text new i)
item_edit name numbers new (changes.Remove i) = RemoveItem name (slice_index numbers i)

-- the edit puts a part of the test of this name
abbrev pub IsPartEdit : List ℕ → Edit → Type 0
IsPartEdit name (SetInit test text) = test ≡ name
IsPartEdit name (SetThread test thread text) = test ≡ name
IsPartEdit name (SetCond test text) = test ≡ name
IsPartEdit name (SetLocations test text) = test ≡ name
IsPartEdit name _ = ⊥
