-- The predefined names of a candidate are those of its execution by name.
use Rattle.std.proofs.Common.{ℕ, ◌≡◌, ◌<◌, inl, inr, List, length, Some, slice_get, sym, ap, subst, ◌∙◌}
use Rattle.std.specs.Prelude.{Vec}
use Rattle.std.specs.List.{AllZip}
use Rattle.std.specs.declared.alloc.Global.{Global}
use Rattle.std.proofs.lemmas.Option.{same_Some}
use Rattle.text_values.specs.declared.instruction.Fence.TheVariants.{Sync, LightweightSync, Eieio, Isync}
use Rattle.text_values.specs.declared.test.Test.{Test}
use Rattle.predefined_names.specs.declared.predefined.Predefined.{Predefined}
use Rattle.predefined_names.specs.declared.predefined.Predefined.TheVariants as names
use Rattle.text_values.specs.TestValue.{Content, content_of}
use Rattle.thread_runs.specs.declared.value.Value.{Value}
use Rattle.thread_runs.specs.declared.instruction.Program.{Program}
use Rattle.ppc_lowering.specs.Lowering.{IsProgram}
use Rattle.taints.specs.Chains as chains
use Rattle.bit_rows.specs.Pairs as pairs
use Rattle.store_orders.specs.declared.combination.Event as numbered_event
use Rattle.candidates.specs.Executions as numbered
use Rattle.candidates.specs.Executions.{IsStoreOrder, locations_from}
use Rattle.candidates.specs.Listed.{ShowsExecution, AreDependencyPairs}
use Rattle.candidate_spaces.specs.Space.{Candidate, shown_of}
use Rattle.base_names.specs.Events.{Below, ListedPairs}
use Rattle.base_names.specs.Names.{IsIn}
use Rattle.base_names.specs.Candidate.{SetIn, SharedIn, RelationIn, ReadsFromIn, CoherenceIn, FromReadsIn}
use Rattle.meaning.specs.Sets as sets
use Rattle.meaning.specs.Sets.{Relation}
use Rattle.meaning.specs.Dependencies as depends
use Rattle.meaning.specs.Executions.{Event, Execution, IsEvent, IsExecution, ReadsFrom, Coherence, Dependency}
use Rattle.meaning.specs.Predefined.{EventsOf, PairsOf, Internal, External, FromReads}
use Rattle.meaning_executions.specs.Events.{IsNumbered, named_events, AreSameEvents}
use Rattle.meaning_executions.proofs.Knowing.{correspond, number_at}
use Rattle.meaning_executions.proofs.Lists.{StandsOnce}
use Rattle.meaning_executions.specs.Executions.{IsSameExecution, IsProgramExecution}
use Rattle.meaning_executions.proofs.Relating.{IsKind}
use Rattle.meaning_executions.specs.Names.{IsSameSet, IsSameRelation, AreNamesMeant, PredefinedNamesAreMeant}
use Rattle.meaning_executions.proofs.EventSets.{event_of_set, set_same}
use Rattle.meaning_executions.proofs.Linking.{numbered_below, below_numbered, is_event, at_same, orders, same_locations, orders_of_locations, internals, externals, identities, fences}
use Rattle.meaning_executions.proofs.Loading.{reads}
use Rattle.meaning_executions.proofs.Stores.{flat, coherences}
use Rattle.meaning_executions.proofs.DependencyPairs.{addr, data_kind, ctrl, ctrlisync, dependencies}

-- ---- relations made of others

module _ (es : List Event) (once : StandsOnce es) where
  one_name : (n : ℕ) (a b : Event) → IsNumbered es n a → IsNumbered es n b → a ≡ b
  one_name n a b at there = same_Some _ _ (sym at ∙ there)

  at_pair : (R : ℕ → ℕ → Type 0) (Q : Relation Event) → IsSameRelation es R Q → (m n : ℕ)
      (a b : Event) → IsNumbered es m a → IsNumbered es n b → R m n → Q a b
  at_pair R Q same m n a b at there h =
      let by : _ = same.by_name m n h in
      subst (λ (c : Event). Q c b) (one_name m by.0 a by.2 at)
      (subst (λ (c : Event). Q by.0 c) (one_name n by.1 b by.3 there) by.4)

  at_named : (R : ℕ → ℕ → Type 0) (Q : Relation Event) → IsSameRelation es R Q → (m n : ℕ)
      (a b : Event) → IsNumbered es m a → IsNumbered es n b → Q a b → R m n
  at_named R Q same m n a b at there h =
      let by : _ = same.by_number a b h in
      subst (λ (k : ℕ). R k n) (once by.0 m a by.2 at)
      (subst (λ (k : ℕ). R by.0 k) (once by.1 n b by.3 there) by.4)

  crossed : (S R : ℕ → ℕ → Type 0) (Q U : Relation Event) → IsSameRelation es R Q
      → IsSameRelation es S U → IsSameRelation es (pairs.Inter S R) (sets.Intersection Q U)
  crossed S R Q U same other = record {
    by_name = λ m n h.
        let by : _ = same.by_name m n h.1 in
        (by.0, by.1, by.2, by.3, (by.4, at_pair S U other m n by.0 by.1 by.2 by.3 h.0));
    by_number = λ a b h.
        let by : _ = same.by_number a b h.0 in
        (by.0, by.1, by.2, by.3, (at_named S U other by.0 by.1 a b by.2 by.3 h.1, by.4));
  }

  joined : (R S : ℕ → ℕ → Type 0) (Q U : Relation Event) → IsSameRelation es R Q
      → IsSameRelation es S U → IsSameRelation es (pairs.Union R S) (sets.Union Q U)
  joined R S Q U same other = record { by_name = to; by_number = from }
    where
      to : (m n : ℕ) → pairs.Union R S m n
          → (a : Event) × (b : Event) × IsNumbered es m a × IsNumbered es n b
          × sets.Union Q U a b
      to m n (inl h) = let by : _ = same.by_name m n h in (by.0, by.1, by.2, by.3, inl by.4)
      to m n (inr h) = let by : _ = other.by_name m n h in (by.0, by.1, by.2, by.3, inr by.4)

      from : (a b : Event) → sets.Union Q U a b
          → (m : ℕ) × (n : ℕ) × IsNumbered es m a × IsNumbered es n b × pairs.Union R S m n
      from a b (inl h) = let by : _ = same.by_number a b h in (by.0, by.1, by.2, by.3, inl by.4)
      from a b (inr h) = let by : _ = other.by_number a b h in (by.0, by.1, by.2, by.3, inr by.4)

  followed : (R S : ℕ → ℕ → Type 0) (Q U : Relation Event) → IsSameRelation es R Q
      → IsSameRelation es S U
      → IsSameRelation es (pairs.Composite (pairs.Inverse R) S) (sets.Sequence (sets.Inverse Q) U)
  followed R S Q U same other = record {
    by_name = λ m n h.
        let one : _ = same.by_name h.0 m h.1 in
        let next : _ = other.by_name h.0 n h.2 in (
          one.1,
          next.1,
          one.3,
          next.3,
          (
            one.0,
            one.4,
            subst (λ (c : Event). U c next.1) (one_name h.0 next.0 one.0 next.2 one.2) next.4,
          ),
        );
    by_number = λ a b h.
        let one : _ = same.by_number h.0 a h.1 in
        let next : _ = other.by_number h.0 b h.2 in (
          one.1,
          next.1,
          one.3,
          next.3,
          (
            one.0,
            one.4,
            subst (λ (k : ℕ). S k next.1) (once next.0 one.0 h.0 next.2 one.2) next.4,
          ),
        );
  }

-- ---- a candidate

module _ (t : Test) (p : Program) (of : IsProgram t p) (V : List Value) (x : numbered.Execution)
    (is : IsProgramExecution p V x) (y : Execution) (by_name : IsExecution (content_of t) y)
    (same : IsSameExecution (content_of t) x y) (ends : List (Vec (List Value) Global))
    (one : Candidate) (shows : ShowsExecution p.initial.items x (shown_of ends one)) where
  abbrev content : Content
  content = content_of t

  abbrev es : List Event
  es = named_events content y.runs

  abbrev ns : List numbered_event.Event
  ns = one.0.events.items

  are : AreSameEvents content y ns es
  are =
      subst (λ (ds : List numbered_event.Event). AreSameEvents content y ds es) (sym shows.events)
      (correspond t p of x.runs y same.runs by_name.runs)

  abbrev Named : (ℕ → ℕ → Type 0) → Relation Event → Type 0
  Named R Q = IsSameRelation es R Q

  reads_from : Named (ReadsFromIn one.0 (length ns) one.1.0) (ReadsFrom y)
  reads_from =
      reads content y ns are one.1.0
      (subst (λ (r : List ℕ). AllZip (IsNumbered es) r y.reads_from) (sym shows.reads_from)
      same.reads_from)

  coherence : Named (CoherenceIn one.0 (length ns) one.1.1) (Coherence y)
  coherence =
      subst (λ (o : List ℕ). Named (CoherenceIn one.0 (length ns) o) (Coherence y))
      (sym shows.coherence)
      (coherences content y ns are p.initial.items x.coherence same.coherence
      (subst
      (λ (ds : List numbered_event.Event). AllZip (IsStoreOrder ds)
      (locations_from 0 p.initial.items) x.coherence) (sym shows.events) is.orders))

  from_reads : Named (FromReadsIn one.0 (length ns) one.1.0 one.1.1) (FromReads y)
  from_reads =
      followed es are.once (ReadsFromIn one.0 (length ns) one.1.0)
      (CoherenceIn one.0 (length ns) one.1.1) (ReadsFrom y) (Coherence y) reads_from coherence

  with_external : (R : ℕ → ℕ → Type 0) (Q : Relation Event) → Named R Q
      → Named (pairs.Inter (SharedIn one.0 (length ns) names.External) R)
      (sets.Intersection Q (External content y))
  with_external R Q h =
      crossed es are.once (SharedIn one.0 (length ns) names.External) R Q (External content y) h
      (externals content y ns are)

  with_internal : (R : ℕ → ℕ → Type 0) (Q : Relation Event) → Named R Q
      → Named (pairs.Inter (SharedIn one.0 (length ns) names.Internal) R)
      (sets.Intersection Q (Internal content y))
  with_internal R Q h =
      crossed es are.once (SharedIn one.0 (length ns) names.Internal) R Q (Internal content y) h
      (internals content y ns are)

  communication : Named (RelationIn names.Communication (length ns) one.0 one.1.0 one.1.1)
      (PairsOf content y names.Communication)
  communication =
      joined es are.once
      (pairs.Union (ReadsFromIn one.0 (length ns) one.1.0) (CoherenceIn one.0 (length ns) one.1.1))
      (FromReadsIn one.0 (length ns) one.1.0 one.1.1)
      (sets.Union (ReadsFrom y) (Coherence y)) (FromReads y)
      (joined es are.once (ReadsFromIn one.0 (length ns) one.1.0)
      (CoherenceIn one.0 (length ns) one.1.1) (ReadsFrom y) (Coherence y) reads_from coherence)
      from_reads

  depending : (R : chains.Executed → ℕ → ℕ → Type 0) (Q : depends.Instructions → ℕ → ℕ → Type 0)
      → IsKind R Q → (ps : List (ℕ × ℕ)) → AreDependencyPairs R p.initial.items x ps
      → Named (Below (length ns) (ListedPairs ps)) (Dependency Q y)
  depending R Q kind ps are_listed =
      dependencies content y ns are p.initial.items x same.runs
      (number_at t p of x.runs y same.runs by_name.runs) R Q kind ps are_listed

  relation_meant : (name : Predefined)
      → Named (RelationIn name (length ns) one.0 one.1.0 one.1.1) (PairsOf content y name)
  relation_meant names.Identity = identities content y ns are
  relation_meant names.ProgramOrder = orders content y ns are
  relation_meant names.SameLocation = same_locations content y ns are
  relation_meant names.ProgramOrderSameLocation = orders_of_locations content y ns are
  relation_meant names.Internal = internals content y ns are
  relation_meant names.External = externals content y ns are
  relation_meant names.ReadsFrom = reads_from
  relation_meant names.Coherence = coherence
  relation_meant names.FromReads = from_reads
  relation_meant names.ReadsFromExternal = with_external _ _ reads_from
  relation_meant names.ReadsFromInternal = with_internal _ _ reads_from
  relation_meant names.CoherenceExternal = with_external _ _ coherence
  relation_meant names.CoherenceInternal = with_internal _ _ coherence
  relation_meant names.FromReadsExternal = with_external _ _ from_reads
  relation_meant names.FromReadsInternal = with_internal _ _ from_reads
  relation_meant names.Communication = communication
  relation_meant names.AddressDependency =
      depending chains.IsAddr depends.IsAddr addr one.0.dependencies.addr_pairs.items shows.addr
  relation_meant names.DataDependency =
      depending chains.IsData depends.IsData data_kind one.0.dependencies.data_pairs.items
      shows.«data»
  relation_meant names.ControlDependency =
      depending chains.IsCtrl depends.IsCtrl ctrl one.0.dependencies.ctrl_pairs.items shows.ctrl
  relation_meant names.ControlIsyncDependency =
      depending chains.IsCtrlIsync depends.IsCtrlIsync ctrlisync
      one.0.dependencies.ctrlisync_pairs.items shows.ctrlisync
  relation_meant names.SyncOrder = fences content y ns are Sync
  relation_meant names.LwsyncOrder = fences content y ns are LightweightSync
  relation_meant names.EieioOrder = fences content y ns are Eieio
  relation_meant names.IsyncOrder = fences content y ns are Isync
  relation_meant _ = record { by_name = λ m n h. absurd h.2; by_number = λ a b h. absurd h }

  set_meant : (name : Predefined)
      → IsSameSet es (SetIn one.0 (length ns) name) (EventsOf content y name)
  set_meant name = record {
    by_name = λ n h.
        let by : _ = numbered_below content y ns are n h.0 in (
          by.0,
          by.1,
          (at_same content y ns are (IsIn name) (EventsOf content y name)
              (λ d e s. set_same content y d e s name) n by.0 by.1).0 h.1,
        );
    by_number = λ e h.
        let by : _ = are.complete e (event_of_set content y name e h) in (
          by.0,
          by.1,
          (
            below_numbered content y ns are by.0 e by.1,
            (at_same content y ns are (IsIn name) (EventsOf content y name)
                (λ d g s. set_same content y d g s name) by.0 e by.1).1 h,
          ),
        );
  }

  pub all_meant : AreNamesMeant content y one
  all_meant = record {
    events = record {
      by_name = λ n lt.
          let by : _ = numbered_below content y ns are n lt in
          (by.0, by.1, is_event content y ns are n by.0 by.1);
      by_number = λ e h.
          let by : _ = are.complete e h in
          (by.0, by.1, below_numbered content y ns are by.0 e by.1);
    };
    sets = set_meant;
    relations = relation_meant;
  }

pub names_meant : PredefinedNamesAreMeant
names_meant t p of values x is y by_name same ends one shows =
    all_meant t p of values x is y by_name same ends one shows
