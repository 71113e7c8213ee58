-- When the names that are held are those of a candidate.
use Rattle.std.specs.Prelude.{ℕ, ◌≡◌, ◌<◌, ◌↔◌, List, length, get_or, Contains, Option, Some, None, false}
use Rattle.predefined_names.specs.declared.predefined.Predefined.{Predefined}
use Rattle.store_orders.specs.declared.combination.Combination.{Combination}
use Rattle.bit_rows.specs.Relation.{IsRelation, IsEvents}
use Rattle.base_names.specs.declared.names.Named.{Named}
use Rattle.base_names.specs.declared.names.Shared.{Shared}
use Rattle.base_names.specs.Events.{At, Below, ReadsFromBy, Coherence}
use Rattle.base_names.specs.Names.{IsIn, Fixed}
use Rattle.bit_rows.specs.Pairs.{Inter, Union, Inverse, Composite}
use Rattle.predefined_names.specs.declared.predefined.Predefined.TheVariants as names
use Rattle.predefined_names.specs.PredefinedNames.{is_set}
use Rattle.base_names.specs.Known.{Known, KnownEvents, SharedPairs, set_names, shared_names}

-- the events of a set among the first n events of a combination
abbrev pub SetIn : Combination → ℕ → Predefined → ℕ → Type 0
SetIn c n name a = (a < n) × At c.events.items (IsIn name) a

-- the pairs of a relation that its candidates share
abbrev pub SharedIn : Combination → ℕ → Predefined → ℕ → ℕ → Type 0
SharedIn c n name = Below n (Fixed name n c)

-- each set is that of its name
abbrev pub AreNamedSets : List Named → ℕ → Combination → Type 0
AreNamedSets xs n c =
    (i : ℕ) → i < length xs → (d : Named)
    → IsEvents (get_or xs i d).set n (SetIn c n (get_or xs i d).name)

-- each relation is that of its name
abbrev pub AreNamedRelations : List Shared → ℕ → Combination → Type 0
AreNamedRelations xs n c =
    (i : ℕ) → i < length xs → (d : Shared)
    → IsRelation (get_or xs i d).relation n (SharedIn c n (get_or xs i d).name)

-- what does not depend on the candidate is that of the combination
pub record IsEntered (known : Known) (c : Combination) : Type 0 where
  pub count : known.count ≡ length c.events.items
  pub sets : (name : Predefined) → Contains (set_names known.sets) name → (a : ℕ)
      → KnownEvents known name a ↔ SetIn c known.count name a
  pub shared : (name : Predefined) → Contains (shared_names known.shared) name → (a b : ℕ)
      → SharedPairs known name a b ↔ SharedIn c known.count name a b

-- the loads read so
abbrev pub HasReadsFrom : Known → Combination → List ℕ → Type 0
HasReadsFrom known c reads_from =
    IsRelation known.reads_from known.count
    (Below known.count (ReadsFromBy c.events.items reads_from))

-- the stores are ordered so
abbrev pub HasCoherence : Known → Combination → List ℕ → Type 0
HasCoherence known c coherence =
    IsRelation known.coherence known.count (Below known.count (Coherence c.events.items coherence))

-- ---- the relations of one candidate, in which the loads read and the stores are ordered so

abbrev pub ReadsFromIn : Combination → ℕ → List ℕ → ℕ → ℕ → Type 0
ReadsFromIn c n reads_from = Below n (ReadsFromBy c.events.items reads_from)

abbrev pub CoherenceIn : Combination → ℕ → List ℕ → ℕ → ℕ → Type 0
CoherenceIn c n coherence = Below n (Coherence c.events.items coherence)

-- a load is before the stores that come after the one that it reads
abbrev pub FromReadsIn : Combination → ℕ → List ℕ → List ℕ → ℕ → ℕ → Type 0
FromReadsIn c n reads_from coherence =
    Composite (Inverse (ReadsFromIn c n reads_from)) (CoherenceIn c n coherence)

abbrev pub RelationIn : Predefined → ℕ → Combination → List ℕ → List ℕ → ℕ → ℕ → Type 0
RelationIn names.ReadsFrom n c reads_from coherence = ReadsFromIn c n reads_from
RelationIn names.Coherence n c reads_from coherence = CoherenceIn c n coherence
RelationIn names.FromReads n c reads_from coherence = FromReadsIn c n reads_from coherence
RelationIn names.ReadsFromExternal n c reads_from coherence =
    Inter (SharedIn c n names.External) (ReadsFromIn c n reads_from)
RelationIn names.ReadsFromInternal n c reads_from coherence =
    Inter (SharedIn c n names.Internal) (ReadsFromIn c n reads_from)
RelationIn names.CoherenceExternal n c reads_from coherence =
    Inter (SharedIn c n names.External) (CoherenceIn c n coherence)
RelationIn names.CoherenceInternal n c reads_from coherence =
    Inter (SharedIn c n names.Internal) (CoherenceIn c n coherence)
RelationIn names.FromReadsExternal n c reads_from coherence =
    Inter (SharedIn c n names.External) (FromReadsIn c n reads_from coherence)
RelationIn names.FromReadsInternal n c reads_from coherence =
    Inter (SharedIn c n names.Internal) (FromReadsIn c n reads_from coherence)
RelationIn names.Communication n c reads_from coherence =
    Union (Union (ReadsFromIn c n reads_from) (CoherenceIn c n coherence))
    (FromReadsIn c n reads_from coherence)
RelationIn name n c reads_from coherence = SharedIn c n name

-- the relation, of those that all candidates of a combination share, that a relation is made of
abbrev pub shared_for : Predefined → Option Predefined
shared_for names.Identity = None
shared_for names.ReadsFrom = None
shared_for names.Coherence = None
shared_for names.FromReads = None
shared_for names.Communication = None
shared_for names.ReadsFromExternal = Some names.External
shared_for names.CoherenceExternal = Some names.External
shared_for names.FromReadsExternal = Some names.External
shared_for names.ReadsFromInternal = Some names.Internal
shared_for names.CoherenceInternal = Some names.Internal
shared_for names.FromReadsInternal = Some names.Internal
shared_for name = Some name

-- it is held, if there is one
abbrev pub HoldsName : List Predefined → Option Predefined → Type 0
HoldsName names None = Unit {0}
HoldsName names (Some name) = Contains names name

-- what a relation needs of those that are held
abbrev pub SuppliesName : Known → Predefined → Type 0
SuppliesName known name = HoldsName (shared_names known.shared) (shared_for name)

-- what the relations among these names need is held
abbrev pub AreCovered : List Predefined → List Predefined → Type 0
AreCovered names ns =
    (name : Predefined) → Contains ns name → is_set name ≡ false → HoldsName names (shared_for name)
