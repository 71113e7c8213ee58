-- The predefined names of cat, as sets of events and as relations (the herd7 manual, chapter on
-- cat). Read next: Cat.
use Rattle.std.specs.Prelude.{◌≡◌, ◌⊎◌, List, [], ◌∷◌}
use Rattle.text_values.specs.declared.instruction.Fence as kinds
use Rattle.text_values.specs.declared.instruction.Fence.TheVariants.{Sync, LightweightSync, Eieio, Isync}
use Rattle.predefined_names.specs.declared.predefined.Predefined.{Predefined}
use Rattle.predefined_names.specs.declared.predefined.Predefined.TheVariants as names
use Rattle.text_values.specs.TestValue.{Content}
use Rattle.meaning.specs.Sets.{Set, Relation, Union, Intersection, Complement, Identity, Inverse, Sequence}
use Rattle.meaning.specs.Names.{Name}
use Rattle.meaning.specs.Machine.{Value}
use Rattle.meaning.specs.Dependencies.{IsAddr, IsData, IsCtrl, IsCtrlIsync}
use Rattle.meaning.specs.Executions.{Event, Initial, Does, Execution, Loads, Fences, HasAction, IsEvent, IsStoreOf, ProgramOrder, ReadsFrom, Coherence, Dependency}

-- The event is a load of the location.
abbrev pub IsLoadOf : Content → Execution → Name → Set Event
IsLoadOf t x l e = (v : Value) × HasAction t x e (Loads l v)

-- The event is a load or a store of the location.
abbrev pub IsAccessOf : Content → Execution → Name → Set Event
IsAccessOf t x l e = IsLoadOf t x l e ⊎ IsStoreOf t x l e

-- The event is a fence of the kind.
abbrev pub IsFence : Content → Execution → kinds.Fence → Set Event
IsFence t x f e = HasAction t x e (Fences f)

-- The event is an initial store, and so of no thread.
abbrev pub IsInitial : Set Event
IsInitial (Initial l) = Unit {0}
IsInitial (Does u i) = ⊥

-- The events are of one thread.
abbrev pub HaveOneThread : Relation Event
HaveOneThread (Does u i) (Does v j) = u ≡ v
HaveOneThread _ _ = ⊥

-- the sets: `R`, `W`, `M`, `F`, `IW`, and the kinds of fences
abbrev pub EventsOf : Content → Execution → Predefined → Set Event
EventsOf t x names.Loads e = (l : Name) × IsLoadOf t x l e
EventsOf t x names.Stores e = (l : Name) × IsStoreOf t x l e
EventsOf t x names.Accesses e = (l : Name) × IsAccessOf t x l e
EventsOf t x names.Fences e = (f : kinds.Fence) × IsFence t x f e
EventsOf t x names.InitialStores e = IsEvent t x e × IsInitial e
EventsOf t x names.SyncFences e = IsFence t x Sync e
EventsOf t x names.LwsyncFences e = IsFence t x LightweightSync e
EventsOf t x names.EieioFences e = IsFence t x Eieio e
EventsOf t x names.IsyncFences e = IsFence t x Isync e
EventsOf t x _ e = ⊥

-- `loc`
abbrev pub SameLocation : Content → Execution → Relation Event
SameLocation t x a b = (l : Name) × IsAccessOf t x l a × IsAccessOf t x l b

-- `int`
abbrev pub Internal : Content → Execution → Relation Event
Internal t x a b = IsEvent t x a × IsEvent t x b × HaveOneThread a b

-- `ext`: all other pairs, so that each initial store has itself
abbrev pub External : Content → Execution → Relation Event
External t x = Complement (IsEvent t x) (Internal t x)

-- `fr`: a load, and each store that comes after the one that it reads
abbrev pub FromReads : Execution → Relation Event
FromReads x = Sequence (Inverse (ReadsFrom x)) (Coherence x)

-- `sync` and the like: accesses with such a fence between them in program order
abbrev pub Fenced : Content → Execution → kinds.Fence → Relation Event
Fenced t x f a b =
    EventsOf t x names.Accesses a × EventsOf t x names.Accesses b
    × ((c : Event) × ProgramOrder t x a c × IsFence t x f c × ProgramOrder t x c b)

-- the relations, by their names
abbrev pub PairsOf : Content → Execution → Predefined → Relation Event
PairsOf t x names.Identity = Identity (IsEvent t x)
PairsOf t x names.ProgramOrder = ProgramOrder t x
PairsOf t x names.SameLocation = SameLocation t x
PairsOf t x names.ProgramOrderSameLocation = Intersection (ProgramOrder t x) (SameLocation t x)
PairsOf t x names.Internal = Internal t x
PairsOf t x names.External = External t x
PairsOf t x names.ReadsFrom = ReadsFrom x
PairsOf t x names.Coherence = Coherence x
PairsOf t x names.FromReads = FromReads x
PairsOf t x names.ReadsFromExternal = Intersection (ReadsFrom x) (External t x)
PairsOf t x names.ReadsFromInternal = Intersection (ReadsFrom x) (Internal t x)
PairsOf t x names.CoherenceExternal = Intersection (Coherence x) (External t x)
PairsOf t x names.CoherenceInternal = Intersection (Coherence x) (Internal t x)
PairsOf t x names.FromReadsExternal = Intersection (FromReads x) (External t x)
PairsOf t x names.FromReadsInternal = Intersection (FromReads x) (Internal t x)
PairsOf t x names.Communication = Union (Union (ReadsFrom x) (Coherence x)) (FromReads x)
PairsOf t x names.AddressDependency = Dependency IsAddr x
PairsOf t x names.DataDependency = Dependency IsData x
PairsOf t x names.ControlDependency = Dependency IsCtrl x
PairsOf t x names.ControlIsyncDependency = Dependency IsCtrlIsync x
PairsOf t x names.SyncOrder = Fenced t x Sync
PairsOf t x names.LwsyncOrder = Fenced t x LightweightSync
PairsOf t x names.EieioOrder = Fenced t x Eieio
PairsOf t x names.IsyncOrder = Fenced t x Isync
PairsOf t x _ = λ a b. ⊥

-- All predefined names. In text_values, `spelling` says how each is written, and `is_set` which are
-- sets.
abbrev pub predefined_names : List Predefined
predefined_names =
    names.Loads ∷ names.Stores ∷ names.Accesses ∷ names.Fences ∷ names.InitialStores ∷
    names.SyncFences ∷ names.LwsyncFences ∷ names.EieioFences ∷ names.IsyncFences ∷
    names.Identity ∷ names.ProgramOrder ∷ names.SameLocation ∷ names.ProgramOrderSameLocation ∷
    names.Internal ∷ names.External ∷ names.ReadsFrom ∷ names.Coherence ∷ names.FromReads ∷
    names.ReadsFromExternal ∷ names.ReadsFromInternal ∷ names.CoherenceExternal ∷
    names.CoherenceInternal ∷ names.FromReadsExternal ∷ names.FromReadsInternal ∷
    names.Communication ∷ names.AddressDependency ∷ names.DataDependency ∷
    names.ControlDependency ∷ names.ControlIsyncDependency ∷ names.SyncOrder ∷
    names.LwsyncOrder ∷ names.EieioOrder ∷ names.IsyncOrder ∷ []
