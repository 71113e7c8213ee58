-- Read this first: what a part of the texts holds.
use Rattle.std.specs.Prelude.{ℕ, ◌-◌, ◌==◌, List, [], ◌∷◌, map, Vec, Option, Some, None, option_map, slice_get, if◌then◌else◌}
use Rattle.std.specs.declared.alloc.Global.{Global}
use Rattle.text_values.specs.declared.test.InitEntry.{InitEntry}
use Rattle.text_values.specs.declared.test.Place.{Place}
use Rattle.text_values.specs.declared.test.Quantifier.{Quantifier}
use Rattle.text_values.specs.declared.test.Step.{Step}
use Rattle.text_values.specs.declared.test.Test.{Test}
use Rattle.text_values.specs.ModelValue.{Clause}
use Rattle.text_values.specs.TestValue.{Formula, formula_of, thread_steps}
use Rattle.binding_kinds.specs.declared.fault.ModelFault.{ModelFault}
use Rattle.bench_items.specs.declared.items.SharedItem.{SharedItem}
use Rattle.bench_items.specs.Items.{RoleContent, shared_role, shared_history}
use Rattle.bench_items.specs.Naming.{SeenName}
use Rattle.bench_nodes.specs.declared.table.ItemRow.{ItemRow}
use Rattle.bench_nodes.specs.declared.table.ModelRow.{ModelRow}
use Rattle.bench_nodes.specs.declared.table.TestRow.{TestRow}
use Rattle.bench_slots.specs.Slots.{item_history}
use Rattle.bench_parts.specs.declared.parts.Parts.{Parts}

-- what a part holds: of an item its text, by which its stamp goes, and what it does, with its
-- history, which its jobs are given; of a model its fault; and the parts of a test
pub data PartContent : Type 0 where
  OfText : (clause : Clause) → PartContent
  OfRole : (role : RoleContent) (history : List SeenName) → PartContent
  OfFault : (fault : ModelFault) → PartContent
  OfCondition : (quantifier : Quantifier) (condition : Formula) → PartContent
  OfObserved : (observed : List Place) → PartContent
  OfLocations : (locations : List (List ℕ)) → PartContent
  OfInit : (init : List InitEntry) → PartContent
  OfThread : (steps : List Step) → PartContent

abbrev pub role_part : Option SharedItem → Option PartContent
role_part None = None
role_part (Some s) = Some (OfRole (shared_role s) (shared_history s))

-- of the item of that number
abbrev pub item_content : List ItemRow → List (Option SharedItem) → ℕ → Option PartContent
item_content [] roles number = None
item_content (i ∷ is) [] number = None
item_content (i ∷ is) (r ∷ rs) number =
    if i.number == number then role_part r else item_content is rs number

-- the names that the item of a part has had
abbrev pub part_history : Option PartContent → List SeenName
part_history (Some (OfRole role history)) = history
part_history _ = []

abbrev pub fault_part : Option ModelFault → Option PartContent
fault_part None = None
fault_part (Some f) = Some (OfFault f)

-- of the model of that number
abbrev pub fault_content : List ModelRow → List (Option ModelFault) → ℕ → Option PartContent
fault_content [] faults id = None
fault_content (m ∷ ms) [] id = None
fault_content (m ∷ ms) (f ∷ fs) id = if m.id == id then fault_part f else fault_content ms fs id

-- of a test with those locations: its condition, what is observed, its locations, its initial
-- values, its threads
abbrev pub test_part : Test → List (List ℕ) → ℕ → Option PartContent
test_part t locations part =
    if part == 2 then Some (OfCondition t.condition.quantifier (formula_of t.condition.proposition))
    else (if part == 3 then Some (OfObserved t.observed.items)
    else (if part == 4 then Some (OfLocations locations)
    else (if part == 5 then Some (OfInit t.init.items)
    else option_map OfThread (slice_get (map thread_steps t.threads.items) (part - 6)))))

-- of the test of that number
abbrev pub test_content : List TestRow → List Test → List (Vec (List ℕ) Global) → ℕ → ℕ
    → Option PartContent
test_content [] tests locations part id = None
test_content (r ∷ rs) [] locations part id = None
test_content (r ∷ rs) (t ∷ ts) [] part id = None
test_content (r ∷ rs) (t ∷ ts) (l ∷ ls) part id =
    if r.id == id then test_part t l.items part else test_content rs ts ls part id

-- the parts of the bench beside its tests
pub record PartsState : Type 0 where
  pub parts : Parts
  pub tests : List Test

abbrev pub parts_state : Parts → List Test → PartsState
parts_state parts tests = record { parts = parts; tests = tests }

-- the histories of items, by their numbers
abbrev pub histories : PartsState → ℕ → List SeenName
histories s = item_history s.parts.table.items.items s.parts.roles.items

-- what jobs are given of a part: items have their part 0, models 1, tests the others
abbrev pub content : PartsState → ℕ → ℕ → Option PartContent
content s part of =
    if part == 0 then item_content s.parts.table.items.items s.parts.roles.items of
    else (if part == 1 then fault_content s.parts.table.models.items s.parts.faults.items of
    else test_content s.parts.table.tests.items s.tests s.parts.locations.items part of)
