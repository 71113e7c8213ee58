-- The relations that have predefined names, by what the events are and do. Read next: Named.
use Rattle.std.specs.Prelude.{ℕ, ◌≡◌, ◌⊎◌, ◌<◌, List, Some, slice_get, Contains, Bool, true, false}
use Rattle.text_values.specs.declared.instruction.Fence as kinds
use Rattle.text_values.specs.declared.instruction.Fence.TheVariants.{Sync, LightweightSync, Eieio, Isync}
use Rattle.predefined_names.specs.declared.predefined.Predefined.{Predefined}
use Rattle.predefined_names.specs.declared.predefined.Predefined.TheVariants as names
use Rattle.meaning.specs.Sets.{Set, Relation}
use Rattle.meaning.specs.Names.{Name}
use Rattle.meaning.specs.Machine.{Value}
use Rattle.meaning.specs.Dependencies.{IsAddr, IsData, IsCtrl, IsCtrlIsync}
use Rattle.meaning.specs.Executions.{Event, Does, Execution, Action, Loads, Stores, Fences, ReadsFrom, Coherence, Dependency}
use Rattle.meaning.specs.Predefined.{HaveOneThread, FromReads}
use Rattle.plain_events.specs.Events.{event_as, action_as}
use Rattle.plain_names.specs.declared.seen.Seen.{Seen}
use Rattle.plain_names.specs.Members.{IsLoading, IsStoring}

-- It is a load or a store of the location.
abbrev pub IsAccessing : Name → Set Action
IsAccessing l a = ((v : Value) × (a ≡ Loads l v)) ⊎ ((v : Value) × (a ≡ Stores l v))

-- It is a load or a store.
abbrev pub IsAccess : Set Action
IsAccess a = IsLoading a ⊎ IsStoring a

-- Both are loads or stores of one location.
abbrev pub AreAccessing : Relation Action
AreAccessing a b = (l : Name) × IsAccessing l a × IsAccessing l b

-- The events are of one thread, the first before the second.
abbrev pub IsBefore : Relation Event
IsBefore (Does u i) (Does v j) = (u ≡ v) × (i < j)
IsBefore _ _ = ⊥

-- The first stands before the second in the list.
abbrev pub StandsBefore : List Event → Relation Event
StandsBefore es a b =
    (i : ℕ) × (j : ℕ) × (i < j) × (slice_get es i ≡ Some a) × (slice_get es j ≡ Some b)

-- It does so in some list.
abbrev pub AreOrdered : List (List Event) → Relation Event
AreOrdered orders a b = (es : List Event) × Contains orders es × StandsBefore es a b

-- The load reads the store, and the other stands behind it in coherence.
abbrev pub IsReadBefore : Execution → Event → Event → Set Event
IsReadBefore x a b c = ReadsFrom x c a × Coherence x c b

-- There is such a store in the list.
abbrev pub IsFromReadsAmong : List Event → Execution → Relation Event
IsFromReadsAmong es x a b = (c : Event) × Contains es c × IsReadBefore x a b c

-- It is a fence of the kind, and stands between the events.
abbrev pub IsFenceBetween : kinds.Fence → Event → Event → Set Seen
IsFenceBetween f a b c =
    IsBefore a (event_as c.event) × (action_as c.action ≡ Fences f)
    × IsBefore (event_as c.event) b

-- There is such a fence among these.
abbrev pub HasFenceBetween : List Seen → kinds.Fence → Relation Event
HasFenceBetween seen f a b = (c : Seen) × Contains seen c × IsFenceBetween f a b c

-- Accesses with such a fence between them.
abbrev pub IsFencedBy : List Seen → kinds.Fence → Relation Seen
IsFencedBy seen f a b =
    IsAccess (action_as a.action) × IsAccess (action_as b.action)
    × HasFenceBetween seen f (event_as a.event) (event_as b.event)

-- One of `rf`, `co` and `fr` relates the events.
abbrev pub IsCommunicatedBy : Predefined → Execution → Relation Event
IsCommunicatedBy names.ReadsFrom x = ReadsFrom x
IsCommunicatedBy names.Coherence x = Coherence x
IsCommunicatedBy names.FromReads x = FromReads x
IsCommunicatedBy _ x = λ a b. ⊥

-- So it is, and they are of one thread if the test is true, and else not.
abbrev pub IsCommunicatedWithin : Predefined → Bool → Execution → Relation Event
IsCommunicatedWithin p true x a b = IsCommunicatedBy p x a b × HaveOneThread a b
IsCommunicatedWithin p false x a b = IsCommunicatedBy p x a b × (HaveOneThread a b → ⊥)

-- The relation of this name relates events that are and do this.
abbrev pub IsRelatedBy : Predefined → List Seen → Execution → Relation Seen
IsRelatedBy names.Identity seen x a b = event_as a.event ≡ event_as b.event
IsRelatedBy names.ProgramOrder seen x a b = IsBefore (event_as a.event) (event_as b.event)
IsRelatedBy names.SameLocation seen x a b = AreAccessing (action_as a.action) (action_as b.action)
IsRelatedBy names.ProgramOrderSameLocation seen x a b =
    IsBefore (event_as a.event) (event_as b.event)
    × AreAccessing (action_as a.action) (action_as b.action)
IsRelatedBy names.Internal seen x a b = HaveOneThread (event_as a.event) (event_as b.event)
IsRelatedBy names.External seen x a b = HaveOneThread (event_as a.event) (event_as b.event) → ⊥
IsRelatedBy names.ReadsFrom seen x a b = ReadsFrom x (event_as a.event) (event_as b.event)
IsRelatedBy names.Coherence seen x a b = Coherence x (event_as a.event) (event_as b.event)
IsRelatedBy names.FromReads seen x a b = FromReads x (event_as a.event) (event_as b.event)
IsRelatedBy names.ReadsFromExternal seen x a b =
    IsCommunicatedWithin names.ReadsFrom false x (event_as a.event) (event_as b.event)
IsRelatedBy names.ReadsFromInternal seen x a b =
    IsCommunicatedWithin names.ReadsFrom true x (event_as a.event) (event_as b.event)
IsRelatedBy names.CoherenceExternal seen x a b =
    IsCommunicatedWithin names.Coherence false x (event_as a.event) (event_as b.event)
IsRelatedBy names.CoherenceInternal seen x a b =
    IsCommunicatedWithin names.Coherence true x (event_as a.event) (event_as b.event)
IsRelatedBy names.FromReadsExternal seen x a b =
    IsCommunicatedWithin names.FromReads false x (event_as a.event) (event_as b.event)
IsRelatedBy names.FromReadsInternal seen x a b =
    IsCommunicatedWithin names.FromReads true x (event_as a.event) (event_as b.event)
IsRelatedBy names.Communication seen x a b =
    (ReadsFrom x (event_as a.event) (event_as b.event)
    ⊎ Coherence x (event_as a.event) (event_as b.event))
    ⊎ FromReads x (event_as a.event) (event_as b.event)
IsRelatedBy names.AddressDependency seen x a b =
    Dependency IsAddr x (event_as a.event) (event_as b.event)
IsRelatedBy names.DataDependency seen x a b =
    Dependency IsData x (event_as a.event) (event_as b.event)
IsRelatedBy names.ControlDependency seen x a b =
    Dependency IsCtrl x (event_as a.event) (event_as b.event)
IsRelatedBy names.ControlIsyncDependency seen x a b =
    Dependency IsCtrlIsync x (event_as a.event) (event_as b.event)
IsRelatedBy names.SyncOrder seen x a b = IsFencedBy seen Sync a b
IsRelatedBy names.LwsyncOrder seen x a b = IsFencedBy seen LightweightSync a b
IsRelatedBy names.EieioOrder seen x a b = IsFencedBy seen Eieio a b
IsRelatedBy names.IsyncOrder seen x a b = IsFencedBy seen Isync a b
IsRelatedBy _ seen x a b = ⊥
