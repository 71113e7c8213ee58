-- What the items of a model are resolved to, or why they have no meaning.
use Rattle.std.specs.Prelude.{◌≡◌, List, [], length, map}
use Rattle.text_values.specs.declared.model.Item.{Item}
use Rattle.binding_kinds.specs.Value.{bare_item}
use Rattle.binding_kinds.specs.Outermost.{outermost_names}
use Rattle.binding_kinds.specs.Faults.{HasNoFault, FirstFault}
use Rattle.binding_graph.specs.declared.resolved.ResolvedItem.{ResolvedItem}
use Rattle.binding_graph.specs.Resolved.{AreResolved, AreLabelledAs}
use Rattle.binding_graph.specs.Reach.{AreReached}
use Rattle.std.specs.Arc.{arc_value}
use Rattle.bench_texts.specs.declared.reading.Reading.{Reading}
use Rattle.bench_texts.specs.declared.reading.Reading.TheVariants as readings

-- the items have no fault, and are resolved to these
pub record AreResolvedItems (items : List Item) (resolved : List ResolvedItem) : Type 0 where
  pub whole : length resolved ≡ length items
  pub no_fault : HasNoFault [] outermost_names 0 (map bare_item items)
  pub as_resolved : AreResolved [] [] outermost_names 0 (map bare_item items) resolved
  pub labelled : AreLabelledAs items resolved

-- the items resolved, with the indexes of those that checks and flags reach, or their first fault
abbrev pub IsModelReading : List Item → Reading → Type 0
IsModelReading items (readings.Sound resolved used) =
    AreResolvedItems items (arc_value resolved).items.items
    × AreReached (arc_value resolved).items.items used.items
IsModelReading items (readings.Faulty fault) =
    FirstFault [] outermost_names 0 (map bare_item items) fault
