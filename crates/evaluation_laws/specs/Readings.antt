-- The items of a model as they are read. Read `Slices` of bench_slices first.
use Rattle.std.specs.Prelude.{ℕ, List, [], map, Option, option_map, slice_get}
use Rattle.std.specs.Arc.{arc_value}
use Rattle.binding_graph.specs.declared.resolved.ResolvedItem.{ResolvedItem}
use Rattle.binding_graph.specs.Contents.{RoleContent, role_content}
use Rattle.bench_texts.specs.declared.model.NamedModel.{NamedModel}
use Rattle.bench_texts.specs.declared.reading.Reading.{Reading}
use Rattle.bench_texts.specs.declared.reading.Reading.TheVariants as readings
use Rattle.bench_slices.specs.Slices.{Uses, uses_of}

-- an item as it is read: what it does, and what it uses
pub record ReadItem : Type 0 where
  pub role : RoleContent
  pub uses : Uses

-- where items have these numbers, in their order
abbrev pub read_item : List ℕ → ResolvedItem → ReadItem
read_item numbers r = record { role = role_content r.role; uses = uses_of numbers r }

-- the items at these indexes, in their order
abbrev pub read_items : List ℕ → List ResolvedItem → List ℕ → List (Option ReadItem)
read_items numbers resolved used =
    map (λ k. option_map (read_item numbers) (slice_get resolved k)) used

abbrev pub items_read_by : NamedModel → Reading → List (Option ReadItem)
items_read_by m (readings.Faulty fault) = []
items_read_by m (readings.Sound resolved used) =
    read_items m.numbers.items (arc_value resolved).items.items used.items

-- the items of a model that checks and flags reach, as they are read, in the order of the text;
-- none where it has a fault
abbrev pub items_read : NamedModel → List (Option ReadItem)
items_read m = items_read_by m m.reading
