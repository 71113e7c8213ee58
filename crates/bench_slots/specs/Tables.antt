-- The nodes that several models give each test. Read it after Slots. The law `tables_are_ordered`
-- cites it.
use Rattle.std.specs.Prelude.{◌≡◌, ⊤, ℕ, ◌<◌, List, [], ◌∷◌, ◌++◌, length, slice_get, Option, Some, None}
use Rattle.std.specs.List.{AllByRecursion as Each, flat_map}
use Rattle.memo_core.specs.declared.keys.Kind.TheVariants as kinds
use Rattle.memo_core.specs.Step.{Has}
use Rattle.binding_kinds.specs.declared.fault.ModelFault.{ModelFault}
use Rattle.binding_kinds.specs.declared.scope.Input.{Input}
use Rattle.binding_graph.specs.declared.resolved.ResolvedItem.{ResolvedItem}
use Rattle.binding_graph.specs.declared.resolved.Role.{Role}
use Rattle.binding_graph.specs.declared.resolved.Role.TheVariants as roles
use Rattle.bench_items.specs.Naming.{SeenName}
use Rattle.bench_slots.specs.Slots.{PlainSlot, sound_slots, faulty_slots}

-- A model by its number, as it is read. It has no fault: its items with their numbers, and the
-- indexes of those that checks and flags reach. Or it has that fault.
pub data ModelReading : Type 0 where
  Sound : (id : ℕ) (numbers : List ℕ) (items : List ResolvedItem) (used : List ℕ) → ModelReading
  Faulty : (id : ℕ) (fault : ModelFault) → ModelReading

-- ---- what the items owe

abbrev pub name_count : Role → ℕ
name_count (roles.Group recursive bodies) = length bodies.items
name_count (roles.Check check) = 0
name_count roles.Silent = 0

-- the name is one of the group at its index
abbrev pub IsNameOf : List ResolvedItem → Input → Type 0
IsNameOf items name =
    (r : ResolvedItem) × (slice_get items name.item ≡ Some r) × (name.position < name_count r.role)

-- each name is one of a group among these items
abbrev pub UsesNames : List ResolvedItem → List ℕ → Option ResolvedItem → Type 0
UsesNames items before None = ⊤
UsesNames items before (Some r) =
    Each (λ name. Has before name.item × IsNameOf items name) r.inputs.items

-- the used items in their order: each uses names of those before it alone, the latest first
abbrev pub AreOrderedItems : List ResolvedItem → List ℕ → List ℕ → Type 0
AreOrderedItems items before [] = ⊤
AreOrderedItems items before (i ∷ is) =
    UsesNames items before (slice_get items i) × AreOrderedItems items (i ∷ before) is

abbrev pub IsOrderedModel : ModelReading → Type 0
IsOrderedModel (Sound id numbers items used) = AreOrderedItems items [] used
IsOrderedModel (Faulty id fault) = ⊤

-- ---- slots

-- the space of each test, whose inputs stand at the test
abbrev pub space_slot : PlainSlot
space_slot = record { kind = kinds.Space; of = 0; inputs = [] }

-- only items use the space, and the verdicts of models without fault
abbrev pub space_slots : List ModelReading → List PlainSlot
space_slots [] = []
space_slots (Sound id numbers items used ∷ ms) = space_slot ∷ []
space_slots (Faulty id fault ∷ ms) = space_slots ms

-- the nodes of a model, where items have these histories
abbrev pub slots_in : (ℕ → List SeenName) → ModelReading → List PlainSlot
slots_in histories (Sound id numbers items used) = sound_slots histories id numbers items used
slots_in histories (Faulty id fault) = faulty_slots id

-- the nodes of each test: its space, and those of each model
abbrev pub all_slots : (ℕ → List SeenName) → List ModelReading → List PlainSlot
all_slots histories models = space_slots models ++ flat_map (slots_in histories) models
