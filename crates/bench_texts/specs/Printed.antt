-- The items of a model as the bench prints them.
use Rattle.std.specs.Prelude.{ℕ, List, ◌∷◌, ◌++◌, map, decimal}
use Rattle.cat_printing.specs.Printing.{lines, printed_item}
use Rattle.bench_texts.specs.BenchTexts.{NumberedItem}

-- an item: its number, a space, what it says
abbrev pub numbered_line : NumberedItem → List ℕ
numbered_line i = decimal i.number ++ (32 ∷ printed_item i.clause)

-- the items, one on each line
abbrev pub printed_items : List NumberedItem → List ℕ
printed_items items = lines (map numbered_line items)
