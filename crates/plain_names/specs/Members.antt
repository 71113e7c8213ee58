-- The sets of events that have predefined names, by what the events do. Read next: Related.
use Rattle.std.specs.Prelude.{ℕ, ◌≡◌, ◌⊎◌, List, Some, slice_get}
use Rattle.text_values.specs.declared.instruction.Fence as kinds
use Rattle.text_values.specs.declared.instruction.Fence.TheVariants.{Sync, LightweightSync, Eieio, Isync}
use Rattle.predefined_names.specs.declared.predefined.Predefined.{Predefined}
use Rattle.predefined_names.specs.declared.predefined.Predefined.TheVariants as names
use Rattle.text_values.specs.TestValue.{Content}
use Rattle.meaning.specs.Sets.{Set}
use Rattle.meaning.specs.Names.{Name}
use Rattle.meaning.specs.Machine.{Value}
use Rattle.meaning.specs.Executions.{Event, Execution, Action, Loads, Stores, Fences}
use Rattle.meaning.specs.Predefined.{IsInitial, EventsOf}
use Rattle.plain_events.specs.Events.{event_as, action_as}
use Rattle.plain_names.specs.declared.seen.Seen.{Seen}

-- It is a load, a store, or a fence.
abbrev pub IsLoading : Set Action
IsLoading a = (l : Name) × (v : Value) × (a ≡ Loads l v)

abbrev pub IsStoring : Set Action
IsStoring a = (l : Name) × (v : Value) × (a ≡ Stores l v)

abbrev pub IsFencing : Set Action
IsFencing a = (f : kinds.Fence) × (a ≡ Fences f)

-- An event that does this belongs to the set of this name.
abbrev pub IsMemberBy : Predefined → Event → Action → Type 0
IsMemberBy names.Loads e a = IsLoading a
IsMemberBy names.Stores e a = IsStoring a
IsMemberBy names.Accesses e a = IsLoading a ⊎ IsStoring a
IsMemberBy names.Fences e a = IsFencing a
IsMemberBy names.InitialStores e a = IsInitial e
IsMemberBy names.SyncFences e a = a ≡ Fences Sync
IsMemberBy names.LwsyncFences e a = a ≡ Fences LightweightSync
IsMemberBy names.EieioFences e a = a ≡ Fences Eieio
IsMemberBy names.IsyncFences e a = a ≡ Fences Isync
IsMemberBy _ e a = ⊥

-- What stands at the index belongs to the set of this name by what it does.
abbrev pub IsMemberSeen : Predefined → List Seen → Set ℕ
IsMemberSeen p seen n =
    (s : Seen) × (slice_get seen n ≡ Some s)
    × IsMemberBy p (event_as s.event) (action_as s.action)

-- What stands at the index is a member of the set of this name.
abbrev pub IsMemberAt : Content → Execution → Predefined → List Event → Set ℕ
IsMemberAt t x p es n = (e : Event) × (slice_get es n ≡ Some e) × EventsOf t x p e
