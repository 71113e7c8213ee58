-- What contracts see of the predefined names over a combination.
use Rattle.std.specs.Prelude.{ℕ, ◌≡◌, ◌≤◌, ◌⊎◌, List, [], ◌∷◌, map, Option, Some, None}
use Rattle.bit_rows.specs.Pairs.{Identity, Inter, Union, Inverse, Composite}
use Rattle.bit_rows.specs.Relation.{Relation, Has, IsRegular, IsRelation, Events, IsMember}
use Rattle.predefined_names.specs.declared.predefined.Predefined.{Predefined}
use Rattle.predefined_names.specs.declared.predefined.Predefined.TheVariants as names
use Rattle.base_names.specs.declared.names.Named.{Named}
use Rattle.base_names.specs.declared.names.Shared.{Shared}

-- the number of events, the sets and the relations that all candidates of the combination share, by
-- name, and the relations of the present candidate
pub record Known : Type 0 where
  pub count : ℕ
  pub sets : List Named
  pub shared : List Shared
  pub reads_from : Relation
  pub read_by : Relation
  pub coherence : Relation
  pub from_reads : Relation

-- the events of the first set of this name, if it is one of n events
abbrev pub EventsUnder : List Named → Predefined → ℕ → ℕ → Type 0
EventsUnder [] name n a = ⊥
EventsUnder (x ∷ xs) name n a =
    ((x.name ≡ name) × (x.set.count ≡ n) × IsMember x.set a)
    ⊎ ((x.name ≡ name → ⊥) × EventsUnder xs name n a)

-- the pairs of the first relation of this name, if it is one of n events
abbrev pub PairsUnder : List Shared → Predefined → ℕ → ℕ → ℕ → Type 0
PairsUnder [] name n a b = ⊥
PairsUnder (x ∷ xs) name n a b =
    ((x.name ≡ name) × (x.relation.count ≡ n) × Has x.relation a b)
    ⊎ ((x.name ≡ name → ⊥) × PairsUnder xs name n a b)

-- the events of a set that was found, if it is one of n events
abbrev pub EventsFound : Option Events → ℕ → ℕ → Type 0
EventsFound None n a = ⊥
EventsFound (Some s) n a = (s.count ≡ n) × IsMember s a

-- the events of a name
abbrev pub KnownEvents : Known → Predefined → ℕ → Type 0
KnownEvents known name = EventsUnder known.sets name known.count

-- the pairs of a name that all candidates of the combination share
abbrev pub SharedPairs : Known → Predefined → ℕ → ℕ → Type 0
SharedPairs known name = PairsUnder known.shared name known.count

-- the pairs of a name in the present candidate
abbrev pub KnownPairs : Known → Predefined → ℕ → ℕ → Type 0
KnownPairs known names.Identity = Identity known.count
KnownPairs known names.ReadsFrom = Has known.reads_from
KnownPairs known names.Coherence = Has known.coherence
KnownPairs known names.FromReads = Has known.from_reads
KnownPairs known names.ReadsFromExternal =
    Inter (SharedPairs known names.External) (Has known.reads_from)
KnownPairs known names.ReadsFromInternal =
    Inter (SharedPairs known names.Internal) (Has known.reads_from)
KnownPairs known names.CoherenceExternal =
    Inter (SharedPairs known names.External) (Has known.coherence)
KnownPairs known names.CoherenceInternal =
    Inter (SharedPairs known names.Internal) (Has known.coherence)
KnownPairs known names.FromReadsExternal =
    Inter (SharedPairs known names.External) (Has known.from_reads)
KnownPairs known names.FromReadsInternal =
    Inter (SharedPairs known names.Internal) (Has known.from_reads)
KnownPairs known names.Communication =
    Union (Union (Has known.reads_from) (Has known.coherence)) (Has known.from_reads)
KnownPairs known names.Loads = SharedPairs known names.Loads
KnownPairs known names.Stores = SharedPairs known names.Stores
KnownPairs known names.Accesses = SharedPairs known names.Accesses
KnownPairs known names.Fences = SharedPairs known names.Fences
KnownPairs known names.InitialStores = SharedPairs known names.InitialStores
KnownPairs known names.SyncFences = SharedPairs known names.SyncFences
KnownPairs known names.LwsyncFences = SharedPairs known names.LwsyncFences
KnownPairs known names.EieioFences = SharedPairs known names.EieioFences
KnownPairs known names.IsyncFences = SharedPairs known names.IsyncFences
KnownPairs known names.ProgramOrder = SharedPairs known names.ProgramOrder
KnownPairs known names.SameLocation = SharedPairs known names.SameLocation
KnownPairs known names.ProgramOrderSameLocation = SharedPairs known names.ProgramOrderSameLocation
KnownPairs known names.Internal = SharedPairs known names.Internal
KnownPairs known names.External = SharedPairs known names.External
KnownPairs known names.AddressDependency = SharedPairs known names.AddressDependency
KnownPairs known names.DataDependency = SharedPairs known names.DataDependency
KnownPairs known names.ControlDependency = SharedPairs known names.ControlDependency
KnownPairs known names.ControlIsyncDependency = SharedPairs known names.ControlIsyncDependency
KnownPairs known names.SyncOrder = SharedPairs known names.SyncOrder
KnownPairs known names.LwsyncOrder = SharedPairs known names.LwsyncOrder
KnownPairs known names.EieioOrder = SharedPairs known names.EieioOrder
KnownPairs known names.IsyncOrder = SharedPairs known names.IsyncOrder

-- the names of the sets and of the relations that are held
abbrev pub set_names : List Named → List Predefined
set_names xs = map (λ x. x.name) xs

abbrev pub shared_names : List Shared → List Predefined
shared_names xs = map (λ x. x.name) xs

-- the four relations are over n events; the second is the inverse of the first, and the last
-- follows from them
pub record AreMatching (n : ℕ) (reads_from read_by coherence from_reads : Relation) : Type 0 where
  pub few : n ≤ 128
  pub reads : reads_from.count ≡ n
  pub reads_regular : IsRegular reads_from
  pub turned : IsRelation read_by n (Inverse (Has reads_from))
  pub order : coherence.count ≡ n
  pub order_regular : IsRegular coherence
  pub made : IsRelation from_reads n (Composite (Has read_by) (Has coherence))

-- the four relations of what is known are so
abbrev pub IsConsistent : Known → Type 0
IsConsistent known =
    AreMatching known.count known.reads_from known.read_by known.coherence known.from_reads
