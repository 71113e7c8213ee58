-- What is held under a name is what the name stands for in the candidate.
use Rattle.std.proofs.Common.{ℕ, ◌≡◌, List, [], ◌∷◌, Contains, IsTrue, false, inl, inr, arith, refl}
use Rattle.std.proofs.lemmas.List.Elements.{Contains-append_right}
use Rattle.bit_rows.specs.Relation.{Has}
use Rattle.predefined_names.specs.declared.predefined.Predefined.{Predefined}
use Rattle.predefined_names.specs.declared.predefined.Predefined.TheVariants as names
use Rattle.predefined_names.specs.PredefinedNames.{is_set}
use Rattle.store_orders.specs.declared.combination.Combination.{Combination}
use Rattle.base_names.specs.declared.names.Named.{Named}
use Rattle.base_names.specs.declared.names.Shared.{Shared}
use Rattle.base_names.specs.Known.{Known, IsConsistent, EventsUnder, PairsUnder, KnownEvents, KnownPairs, SharedPairs, set_names, shared_names}
use Rattle.base_names.specs.Candidate.{IsEntered, HasReadsFrom, HasCoherence, SuppliesName, SetIn, SharedIn, RelationIn, FromReadsIn}
use Rattle.cat_eval.specs.Needed.{changes_with_reads, changes_with_orders}
use Rattle.cat_machine.proofs.Same.{Same, SameSet}
use Rattle.base_names.proofs.Meant.{both, either}

-- what has events or pairs is held
set_held : (xs : List Named) (name : Predefined) (n a : ℕ) → EventsUnder xs name n a
    → Contains (set_names xs) name
set_held [] name n a h = absurd h
set_held (x ∷ xs) name n a (inl h) = (0, omega arith, h.0)
set_held (x ∷ xs) name n a (inr h) =
    Contains-append_right (x.name ∷ []) (set_names xs) name (set_held xs name n a h.1)

shared_held : (xs : List Shared) (name : Predefined) (n a b : ℕ) → PairsUnder xs name n a b
    → Contains (shared_names xs) name
shared_held [] name n a b h = absurd h
shared_held (x ∷ xs) name n a b (inl h) = (0, omega arith, h.0)
shared_held (x ∷ xs) name n a b (inr h) =
    Contains-append_right (x.name ∷ []) (shared_names xs) name (shared_held xs name n a b h.1)

module _ (known : Known) (c : Combination) (entered : IsEntered known c) where
  -- a name that stands for no set, or for no relation
  no_set : (name : Predefined) → ((a : ℕ) → SetIn c known.count name a → ⊥)
      → SameSet (KnownEvents known name) (SetIn c known.count name)
  no_set name none a = (
    (λ h. (entered.sets name (set_held known.sets name known.count a h) a).0 h),
    (λ h. absurd (none a h)),
  )

  no_relation : (name : Predefined) → ((a b : ℕ) → SharedIn c known.count name a b → ⊥)
      → Same (SharedPairs known name) (SharedIn c known.count name)
  no_relation name none a b = (
    (λ h. (entered.shared name (shared_held known.shared name known.count a b h) a b).0 h),
    (λ h. absurd (none a b h)),
  )

  pub set_meant : (name : Predefined)
      → (IsTrue (is_set name) → Contains (set_names known.sets) name)
      → SameSet (KnownEvents known name) (SetIn c known.count name)
  set_meant names.Loads held = entered.sets names.Loads (held refl)
  set_meant names.Stores held = entered.sets names.Stores (held refl)
  set_meant names.Accesses held = entered.sets names.Accesses (held refl)
  set_meant names.Fences held = entered.sets names.Fences (held refl)
  set_meant names.InitialStores held = entered.sets names.InitialStores (held refl)
  set_meant names.SyncFences held = entered.sets names.SyncFences (held refl)
  set_meant names.LwsyncFences held = entered.sets names.LwsyncFences (held refl)
  set_meant names.EieioFences held = entered.sets names.EieioFences (held refl)
  set_meant names.IsyncFences held = entered.sets names.IsyncFences (held refl)
  set_meant names.Identity held = no_set names.Identity (λ a h. absurd h.1.2)
  set_meant names.ProgramOrder held = no_set names.ProgramOrder (λ a h. absurd h.1.2)
  set_meant names.SameLocation held = no_set names.SameLocation (λ a h. absurd h.1.2)
  set_meant names.ProgramOrderSameLocation held =
      no_set names.ProgramOrderSameLocation (λ a h. absurd h.1.2)
  set_meant names.Internal held = no_set names.Internal (λ a h. absurd h.1.2)
  set_meant names.External held = no_set names.External (λ a h. absurd h.1.2)
  set_meant names.ReadsFrom held = no_set names.ReadsFrom (λ a h. absurd h.1.2)
  set_meant names.Coherence held = no_set names.Coherence (λ a h. absurd h.1.2)
  set_meant names.FromReads held = no_set names.FromReads (λ a h. absurd h.1.2)
  set_meant names.ReadsFromExternal held = no_set names.ReadsFromExternal (λ a h. absurd h.1.2)
  set_meant names.ReadsFromInternal held = no_set names.ReadsFromInternal (λ a h. absurd h.1.2)
  set_meant names.CoherenceExternal held = no_set names.CoherenceExternal (λ a h. absurd h.1.2)
  set_meant names.CoherenceInternal held = no_set names.CoherenceInternal (λ a h. absurd h.1.2)
  set_meant names.FromReadsExternal held = no_set names.FromReadsExternal (λ a h. absurd h.1.2)
  set_meant names.FromReadsInternal held = no_set names.FromReadsInternal (λ a h. absurd h.1.2)
  set_meant names.Communication held = no_set names.Communication (λ a h. absurd h.1.2)
  set_meant names.AddressDependency held = no_set names.AddressDependency (λ a h. absurd h.1.2)
  set_meant names.DataDependency held = no_set names.DataDependency (λ a h. absurd h.1.2)
  set_meant names.ControlDependency held = no_set names.ControlDependency (λ a h. absurd h.1.2)
  set_meant names.ControlIsyncDependency held =
      no_set names.ControlIsyncDependency (λ a h. absurd h.1.2)
  set_meant names.SyncOrder held = no_set names.SyncOrder (λ a h. absurd h.1.2)
  set_meant names.LwsyncOrder held = no_set names.LwsyncOrder (λ a h. absurd h.1.2)
  set_meant names.EieioOrder held = no_set names.EieioOrder (λ a h. absurd h.1.2)
  set_meant names.IsyncOrder held = no_set names.IsyncOrder (λ a h. absurd h.1.2)

  module _ (consistent : IsConsistent known) (reads_from coherence : List ℕ) where
    from_reads : HasReadsFrom known c reads_from → HasCoherence known c coherence
        → Same (Has known.from_reads) (FromReadsIn c known.count reads_from coherence)
    from_reads reads orders a b = (
      (λ h.
          let k = (consistent.made.pairs a b).0 h in (
            k.0,
            (reads.pairs k.0 a).0 ((consistent.turned.pairs a k.0).0 k.1),
            (orders.pairs k.0 b).0 k.2,
          )),
      (λ k. (consistent.made.pairs a b).1 (
        k.0,
        (consistent.turned.pairs a k.0).1 ((reads.pairs k.0 a).1 k.1),
        (orders.pairs k.0 b).1 k.2,
      )),
    )

    -- what the loads read and the order of the stores matter where the name changes with them
    pub relation_meant : (name : Predefined)
        → (IsTrue (changes_with_reads name) → HasReadsFrom known c reads_from)
        → (IsTrue (changes_with_orders name) → HasCoherence known c coherence)
        → (is_set name ≡ false → SuppliesName known name)
        → Same (KnownPairs known name) (RelationIn name known.count c reads_from coherence)
    relation_meant names.Loads reads orders given = no_relation names.Loads (λ a b h. absurd h.2)
    relation_meant names.Stores reads orders given = no_relation names.Stores (λ a b h. absurd h.2)
    relation_meant names.Accesses reads orders given =
        no_relation names.Accesses (λ a b h. absurd h.2)
    relation_meant names.Fences reads orders given = no_relation names.Fences (λ a b h. absurd h.2)
    relation_meant names.InitialStores reads orders given =
        no_relation names.InitialStores (λ a b h. absurd h.2)
    relation_meant names.SyncFences reads orders given =
        no_relation names.SyncFences (λ a b h. absurd h.2)
    relation_meant names.LwsyncFences reads orders given =
        no_relation names.LwsyncFences (λ a b h. absurd h.2)
    relation_meant names.EieioFences reads orders given =
        no_relation names.EieioFences (λ a b h. absurd h.2)
    relation_meant names.IsyncFences reads orders given =
        no_relation names.IsyncFences (λ a b h. absurd h.2)
    relation_meant names.Identity reads orders given =
        λ a b. ((λ h. (h.0, rw (← h.1) h.0, h)), (λ h. h.2))
    relation_meant names.ProgramOrder reads orders given =
        entered.shared names.ProgramOrder (given refl)
    relation_meant names.SameLocation reads orders given =
        entered.shared names.SameLocation (given refl)
    relation_meant names.ProgramOrderSameLocation reads orders given =
        entered.shared names.ProgramOrderSameLocation (given refl)
    relation_meant names.Internal reads orders given = entered.shared names.Internal (given refl)
    relation_meant names.External reads orders given = entered.shared names.External (given refl)
    relation_meant names.ReadsFrom reads orders given = λ a b. (reads refl).pairs a b
    relation_meant names.Coherence reads orders given = λ a b. (orders refl).pairs a b
    relation_meant names.FromReads reads orders given = from_reads (reads refl) (orders refl)
    relation_meant names.ReadsFromExternal reads orders given =
        λ a b. both (entered.shared names.External (given refl) a b) ((reads refl).pairs a b)
    relation_meant names.ReadsFromInternal reads orders given =
        λ a b. both (entered.shared names.Internal (given refl) a b) ((reads refl).pairs a b)
    relation_meant names.CoherenceExternal reads orders given =
        λ a b. both (entered.shared names.External (given refl) a b) ((orders refl).pairs a b)
    relation_meant names.CoherenceInternal reads orders given =
        λ a b. both (entered.shared names.Internal (given refl) a b) ((orders refl).pairs a b)
    relation_meant names.FromReadsExternal reads orders given =
        λ a b. both (entered.shared names.External (given refl) a b)
        (from_reads (reads refl) (orders refl) a b)
    relation_meant names.FromReadsInternal reads orders given =
        λ a b. both (entered.shared names.Internal (given refl) a b)
        (from_reads (reads refl) (orders refl) a b)
    relation_meant names.Communication reads orders given =
        λ a b. either (either ((reads refl).pairs a b) ((orders refl).pairs a b))
        (from_reads (reads refl) (orders refl) a b)
    relation_meant names.AddressDependency reads orders given =
        entered.shared names.AddressDependency (given refl)
    relation_meant names.DataDependency reads orders given =
        entered.shared names.DataDependency (given refl)
    relation_meant names.ControlDependency reads orders given =
        entered.shared names.ControlDependency (given refl)
    relation_meant names.ControlIsyncDependency reads orders given =
        entered.shared names.ControlIsyncDependency (given refl)
    relation_meant names.SyncOrder reads orders given = entered.shared names.SyncOrder (given refl)
    relation_meant names.LwsyncOrder reads orders given =
        entered.shared names.LwsyncOrder (given refl)
    relation_meant names.EieioOrder reads orders given =
        entered.shared names.EieioOrder (given refl)
    relation_meant names.IsyncOrder reads orders given =
        entered.shared names.IsyncOrder (given refl)
