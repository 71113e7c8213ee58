-- What the names of an item stand for depends only on what a candidate shows and on the values of
-- the inputs.
use Rattle.std.proofs.Common.{ℕ, ◌≡◌, ◌<◌, List, map, Option, Some, None, Bor, refl, sym, ap, ◌∙◌}
use Rattle.std.specs.Prelude.{slice_get}
use Rattle.std.specs.Option.{option_map}
use Rattle.std.proofs.Math.Path.{fun_ext}
use Rattle.std.proofs.lemmas.Option.{slice_get-map}
use Rattle.text_values.specs.declared.instruction.Fence.TheVariants.{Sync, LightweightSync, Eieio, Isync}
use Rattle.predefined_names.specs.declared.predefined.Predefined.{Predefined}
use Rattle.predefined_names.specs.declared.predefined.Predefined.TheVariants as names
use Rattle.bit_rows.specs.Pairs.{Complement, Inter, Union, Inverse, Composite}
use Rattle.taints.specs.DependencyLists.{DependencyLists, dependency_lists}
use Rattle.store_orders.specs.declared.combination.Combination.{Combination}
use Rattle.store_orders.specs.declared.combination.Event.{Event}
use Rattle.candidate_spaces.specs.Space.{Candidate}
use Rattle.base_names.specs.Events as of
use Rattle.base_names.specs.Events.{At, Below, Fenced, ListedPairs, ReadsFromBy, Coherence}
use Rattle.base_names.specs.Names.{IsIn, Fixed}
use Rattle.base_names.specs.Candidate.{SetIn, SharedIn, ReadsFromIn, CoherenceIn, FromReadsIn, RelationIn}
use Rattle.binding_graph.specs.declared.resolved.Source.{Source}
use Rattle.binding_graph.specs.declared.resolved.Source.TheVariants as sources
use Rattle.cat_machine.specs.declared.column.Column.{Column}
use Rattle.cat_machine.specs.Executions.{events_of, EventsAt, PairsAt}
use Rattle.cat_machine.specs.Named.{ColumnEvents, ColumnPairs, InputEvents, InputPairs}

-- ---- the predefined names of a combination

-- two combinations have the same events and dependencies
pub record HaveSameFacts (c d : Combination) : Type 0 where
  pub events : c.events.items ≡ d.events.items
  pub dependencies : dependency_lists c.dependencies ≡ dependency_lists d.dependencies

module _ (c d : Combination) (e : HaveSameFacts c d) (n : ℕ) where
  set_kept : (name : Predefined) → SetIn c n name ≡ SetIn d n name
  set_kept name = ap (λ (es : List Event). λ a. (a < n) × At es (IsIn name) a) e.events

  fixed_kept : (name : Predefined) → Fixed name n c ≡ Fixed name n d
  fixed_kept names.ProgramOrder = ap (λ (es : List Event). of.ProgramOrder es) e.events
  fixed_kept names.SameLocation = ap (λ (es : List Event). of.SameLocation es) e.events
  fixed_kept names.ProgramOrderSameLocation =
      ap (λ (es : List Event). Inter (of.ProgramOrder es) (of.SameLocation es)) e.events
  fixed_kept names.Internal = ap (λ (es : List Event). of.Internal es) e.events
  fixed_kept names.External = ap (λ (es : List Event). Complement n (of.Internal es)) e.events
  fixed_kept names.AddressDependency =
      ap (λ (l : DependencyLists). ListedPairs l.addr_pairs) e.dependencies
  fixed_kept names.DataDependency = ap (λ (l : DependencyLists). ListedPairs l.data_pairs) e.dependencies
  fixed_kept names.ControlDependency =
      ap (λ (l : DependencyLists). ListedPairs l.ctrl_pairs) e.dependencies
  fixed_kept names.ControlIsyncDependency =
      ap (λ (l : DependencyLists). ListedPairs l.ctrlisync_pairs) e.dependencies
  fixed_kept names.SyncOrder = ap (λ (es : List Event). Fenced es Sync) e.events
  fixed_kept names.LwsyncOrder = ap (λ (es : List Event). Fenced es LightweightSync) e.events
  fixed_kept names.EieioOrder = ap (λ (es : List Event). Fenced es Eieio) e.events
  fixed_kept names.IsyncOrder = ap (λ (es : List Event). Fenced es Isync) e.events
  fixed_kept _ = refl

  shared_kept : (name : Predefined) → SharedIn c n name ≡ SharedIn d n name
  shared_kept name = ap (λ (R : ℕ → ℕ → Type 0). Below n R) (fixed_kept name)

  reads_kept : (reads : List ℕ) → ReadsFromIn c n reads ≡ ReadsFromIn d n reads
  reads_kept reads = ap (λ (es : List Event). Below n (ReadsFromBy es reads)) e.events

  order_kept : (coherence : List ℕ) → CoherenceIn c n coherence ≡ CoherenceIn d n coherence
  order_kept coherence = ap (λ (es : List Event). Below n (Coherence es coherence)) e.events

  from_reads_kept : (reads coherence : List ℕ)
      → FromReadsIn c n reads coherence ≡ FromReadsIn d n reads coherence
  from_reads_kept reads coherence =
      ap
      (λ (es : List Event).
      Composite (Inverse (Below n (ReadsFromBy es reads))) (Below n (Coherence es coherence))) e.events

  both_kept : (P Q R S : ℕ → ℕ → Type 0) → P ≡ Q → R ≡ S → Inter P R ≡ Inter Q S
  both_kept P Q R S p r = λ i. Inter (p i) (r i)

  relation_kept : (name : Predefined) (reads coherence : List ℕ)
      → RelationIn name n c reads coherence ≡ RelationIn name n d reads coherence
  relation_kept names.ReadsFrom reads coherence = reads_kept reads
  relation_kept names.Coherence reads coherence = order_kept coherence
  relation_kept names.FromReads reads coherence = from_reads_kept reads coherence
  relation_kept names.ReadsFromExternal reads coherence =
      both_kept _ _ _ _ (shared_kept names.External) (reads_kept reads)
  relation_kept names.ReadsFromInternal reads coherence =
      both_kept _ _ _ _ (shared_kept names.Internal) (reads_kept reads)
  relation_kept names.CoherenceExternal reads coherence =
      both_kept _ _ _ _ (shared_kept names.External) (order_kept coherence)
  relation_kept names.CoherenceInternal reads coherence =
      both_kept _ _ _ _ (shared_kept names.Internal) (order_kept coherence)
  relation_kept names.FromReadsExternal reads coherence =
      both_kept _ _ _ _ (shared_kept names.External) (from_reads_kept reads coherence)
  relation_kept names.FromReadsInternal reads coherence =
      both_kept _ _ _ _ (shared_kept names.Internal) (from_reads_kept reads coherence)
  relation_kept names.Communication reads coherence =
      λ i. Union (Union (reads_kept reads i) (order_kept coherence i)) (from_reads_kept reads coherence i)
  relation_kept name reads coherence = shared_kept name

-- ---- the names of an item in a candidate

abbrev events_now : Option Column → ℕ → ℕ → ℕ → Type 0
events_now None k n = λ a. ⊥
events_now (Some column) k n = ColumnEvents column k n

abbrev pairs_now : Option Column → ℕ → ℕ → ℕ → ℕ → Type 0
pairs_now None k n = λ a b. ⊥
pairs_now (Some column) k n = ColumnPairs column k n

events_read : (o : Option (Bor Column)) (k n : ℕ)
    → InputEvents o k n ≡ events_now (option_map (λ c. c.now) o) k n
events_read None k n = refl
events_read (Some column) k n = refl

pairs_read : (o : Option (Bor Column)) (k n : ℕ)
    → InputPairs o k n ≡ pairs_now (option_map (λ c. c.now) o) k n
pairs_read None k n = refl
pairs_read (Some column) k n = refl

values_kept : (inputs others : List (Bor Column)) (index : ℕ)
    → map (λ c. c.now) inputs ≡ map (λ c. c.now) others
    → option_map (λ c. c.now) (slice_get inputs index)
    ≡ option_map (λ c. c.now) (slice_get others index)
values_kept inputs others index e =
    sym (slice_get-map (λ (c : Bor Column). c.now) inputs index)
    ∙ (ap (λ (cs : List Column). slice_get cs index) e
    ∙ slice_get-map (λ (c : Bor Column). c.now) others index)

-- two candidates show the same
pub record HaveSameNames (one two : Candidate) : Type 0 where
  pub facts : HaveSameFacts one.0 two.0
  pub reads : one.1.0 ≡ two.1.0
  pub coherence : one.1.1 ≡ two.1.1

module _ (one two : Candidate) (e : HaveSameNames one two) (inputs others : List (Bor Column))
    (f : map (λ c. c.now) inputs ≡ map (λ c. c.now) others) (k : ℕ) where
  pub count_kept : events_of one ≡ events_of two
  count_kept = let same : one.0.events.items ≡ two.0.events.items = e.facts.events in cc

  pub events_kept : (n : ℕ) → EventsAt n one inputs k ≡ EventsAt n two others k
  events_kept n = fun_ext at_source
    where
      at_source : (source : Source)
          → EventsAt n one inputs k source ≡ EventsAt n two others k source
      at_source (sources.Predefined name) = set_kept one.0 two.0 e.facts n name
      at_source (sources.Input index) =
          events_read (slice_get inputs index) k n
          ∙ (ap (λ (o : Option Column). events_now o k n) (values_kept inputs others index f)
          ∙ sym (events_read (slice_get others index) k n))
      at_source (sources.Own position) = refl

  pub pairs_kept : (n : ℕ) → PairsAt n one inputs k ≡ PairsAt n two others k
  pairs_kept n = fun_ext at_source
    where
      at_source : (source : Source) → PairsAt n one inputs k source ≡ PairsAt n two others k source
      at_source (sources.Predefined name) =
          relation_kept one.0 two.0 e.facts n name one.1.0 one.1.1
          ∙ (ap (λ (reads : List ℕ). RelationIn name n two.0 reads one.1.1) e.reads
          ∙ ap (λ (coherence : List ℕ). RelationIn name n two.0 two.1.0 coherence) e.coherence)
      at_source (sources.Input index) =
          pairs_read (slice_get inputs index) k n
          ∙ (ap (λ (o : Option Column). pairs_now o k n) (values_kept inputs others index f)
          ∙ sym (pairs_read (slice_get others index) k n))
      at_source (sources.Own position) = refl
