-- What the verdict of a cell depends on: its slice.
use Rattle.std.specs.Prelude.{ℕ, List, map, Option, option_map, slice_get}
use Rattle.std.specs.Arc.{arc_value}
use Rattle.text_values.specs.declared.test.Quantifier.{Quantifier}
use Rattle.text_values.specs.TestValue.{Content, Formula}
use Rattle.text_values.specs.ModelValue.{Clause}
use Rattle.text_values.specs.ModelValues.{clause_of}
use Rattle.text_values.specs.declared.model.Item.{Item}
use Rattle.binding_kinds.specs.declared.fault.ModelFault.{ModelFault}
use Rattle.binding_kinds.specs.declared.scope.Input.{Input}
use Rattle.binding_graph.specs.declared.resolved.ResolvedItem.{ResolvedItem}
use Rattle.bench_texts.specs.declared.model.NamedModel.{NamedModel}
use Rattle.bench_texts.specs.declared.reading.Reading.{Reading}
use Rattle.bench_texts.specs.declared.reading.Reading.TheVariants as readings

-- a name of another item: the number of that item, and the name's position there
pub record BoundName : Type 0 where
  pub item : Option ℕ
  pub position : ℕ

-- what an item uses: names of other items, and functions by their numbers
pub record Uses : Type 0 where
  pub names : List BoundName
  pub functions : List (Option ℕ)

-- Under a model with a fault: the fault and the condition. Else: the test, and of the items that
-- checks and flags reach the numbers, what they say and what they use, in the order of the text.
pub data Slice : Type 0 where
  OfFault : (fault : ModelFault) (quantifier : Quantifier) (condition : Formula) → Slice
  OfItems : (test : Content) (numbers : List (Option ℕ)) (clauses : List (Option Clause))
      (uses : List (Option Uses)) → Slice

-- where items have these numbers, in their order
abbrev pub bound_name : List ℕ → Input → BoundName
bound_name numbers i = record { item = slice_get numbers i.item; position = i.position }

abbrev pub uses_of : List ℕ → ResolvedItem → Uses
uses_of numbers r =
    record {
      names = map (bound_name numbers) r.inputs.items;
      functions = map (slice_get numbers) r.functions.items;
    }

-- what the item at an index says
abbrev pub clause_at : List Item → ℕ → Option Clause
clause_at items k = option_map clause_of (slice_get items k)

-- what the item at an index uses
abbrev pub uses_at : List ℕ → List ResolvedItem → ℕ → Option Uses
uses_at numbers resolved k = option_map (uses_of numbers) (slice_get resolved k)

-- the slice of a test under items with these numbers, resolved so, of which checks and flags reach
-- those at these indexes
abbrev pub slice_of_items : Content → List ℕ → List Item → List ResolvedItem → List ℕ → Slice
slice_of_items c numbers items resolved used =
    OfItems c (map (slice_get numbers) used) (map (clause_at items) used)
    (map (uses_at numbers resolved) used)

abbrev pub slice_by : Content → NamedModel → Reading → Slice
slice_by c m (readings.Faulty fault) = OfFault fault c.quantifier c.condition
slice_by c m (readings.Sound resolved used) =
    slice_of_items c m.numbers.items m.text.items.items (arc_value resolved).items.items used.items

-- the slice of a test under a model
abbrev pub slice : Content → NamedModel → Slice
slice c m = slice_by c m m.reading
