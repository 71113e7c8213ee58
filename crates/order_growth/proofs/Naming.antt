-- What the names of an item stand for changes as their growths say.
use Rattle.std.proofs.Common.{ℕ, ◌≡◌, inl, inr, List, [], Bor, refl, sym, ap, subst}
use Rattle.predefined_names.specs.declared.predefined.Predefined.{Predefined}
use Rattle.predefined_names.specs.declared.predefined.Predefined.TheVariants as names
use Rattle.store_orders.specs.declared.combination.Combination.{Combination}
use Rattle.store_orders.specs.declared.combination.Event.{Event}
use Rattle.candidate_spaces.specs.Space.{Candidate}
use Rattle.base_names.specs.Events.{ReadsFromBy, Coherence}
use Rattle.base_names.specs.Candidate.{SetIn, ReadsFromIn, CoherenceIn, FromReadsIn, RelationIn}
use Rattle.binding_graph.specs.declared.resolved.Source.{Source}
use Rattle.binding_graph.specs.declared.resolved.Source.TheVariants as sources
use Rattle.cat_machine.specs.declared.column.Column.{Column}
use Rattle.cat_machine.specs.Executions.{EventsAt, PairsAt}
use Rattle.cat_machine.specs.Named.{WithOwn}
use Rattle.cat_machine.proofs.Same.{Same, SameSet}
use Rattle.order_growth.proofs.KeptNames.{HaveSameNames, events_kept, pairs_kept}
use Rattle.order_growth.specs.declared.growth.Growth.{Growth}
use Rattle.order_growth.specs.Growth.{predefined_growth, source_growth}
use Rattle.order_growth.specs.Within.{IsWithin, IsGrowthBetween, AreInputsGrown}
use Rattle.order_growth.proofs.Trees.{Subset, composite_wider}

-- ---- in one combination

module _ (c : Combination) (n : ℕ) (reads more_reads order more_order : List ℕ)
    (read : (a b : ℕ) → ReadsFromBy c.events.items reads a b → ReadsFromBy c.events.items more_reads a b)
    (ordered : (a b : ℕ) → Coherence c.events.items order a b → Coherence c.events.items more_order a b) where
  reads_wider : Subset (ReadsFromIn c n reads) (ReadsFromIn c n more_reads)
  reads_wider a b h = (h.0, h.1, read a b h.2)

  order_wider : Subset (CoherenceIn c n order) (CoherenceIn c n more_order)
  order_wider a b h = (h.0, h.1, ordered a b h.2)

  from_reads_wider : Subset (FromReadsIn c n reads order) (FromReadsIn c n more_reads more_order)
  from_reads_wider = composite_wider _ _ _ _ (λ a b h. reads_wider b a h) order_wider

  pub relation_grown : (name : Predefined)
      → IsGrowthBetween (predefined_growth name) (RelationIn name n c reads order)
      (RelationIn name n c more_reads more_order)
  relation_grown names.ReadsFrom = reads_wider
  relation_grown names.Coherence = order_wider
  relation_grown names.FromReads = from_reads_wider
  relation_grown names.ReadsFromExternal = λ a b h. (h.0, reads_wider a b h.1)
  relation_grown names.ReadsFromInternal = λ a b h. (h.0, reads_wider a b h.1)
  relation_grown names.CoherenceExternal = λ a b h. (h.0, order_wider a b h.1)
  relation_grown names.CoherenceInternal = λ a b h. (h.0, order_wider a b h.1)
  relation_grown names.FromReadsExternal = λ a b h. (h.0, from_reads_wider a b h.1)
  relation_grown names.FromReadsInternal = λ a b h. (h.0, from_reads_wider a b h.1)
  relation_grown names.Communication = λ a b h. elim h [
    | inl k ↦ elim k [
      | inl r ↦ inl (inl (reads_wider a b r))
      | inr o ↦ inl (inr (order_wider a b o))
    ]
    | inr f ↦ inr (from_reads_wider a b f)
  ]
  relation_grown name = λ a b. ((λ x. x), (λ x. x))

-- ---- from a candidate to one that it lies within

module _ (one more : Candidate) (inside : IsWithin one more) where
  -- the first candidate in the combination of the second
  moved : Candidate
  moved = (more.0, (one.1.0, one.1.1))

  kept : HaveSameNames one moved
  unfolding moved
  kept = record {
    facts = record { events = inside.events; dependencies = inside.dependencies };
    reads = refl;
    coherence = refl;
  }

  pub set_same : (n : ℕ) (name : Predefined) → SameSet (SetIn one.0 n name) (SetIn more.0 n name)
  unfolding moved
  set_same n name a =
      let e : SetIn one.0 n name ≡ SetIn more.0 n name = ap (λ (S : Source → ℕ → Type 0). S (sources.Predefined name)) (events_kept one moved kept [] [] refl 0 n) in
      (subst (λ (S : ℕ → Type 0). S a) e, subst (λ (S : ℕ → Type 0). S a) (sym e))

  pub names_grown : (n : ℕ) (name : Predefined)
      → IsGrowthBetween (predefined_growth name) (RelationIn name n one.0 one.1.0 one.1.1)
      (RelationIn name n more.0 more.1.0 more.1.1)
  unfolding moved
  names_grown n name =
      let e : RelationIn name n one.0 one.1.0 one.1.1 ≡ RelationIn name n more.0 one.1.0 one.1.1 = ap (λ (R : Source → ℕ → ℕ → Type 0). R (sources.Predefined name)) (pairs_kept one moved kept [] [] refl 0 n) in
      subst (λ (R : ℕ → ℕ → Type 0). IsGrowthBetween (predefined_growth name) R (RelationIn name n more.0 more.1.0 more.1.1)) (sym e)
      (relation_grown more.0 n one.1.0 more.1.0 one.1.1 more.1.1
      (λ a b h. inside.reads a b (subst (λ (es : List Event). ReadsFromBy es one.1.0 a b) (sym inside.events) h))
      (λ a b h. inside.coherence a b (subst (λ (es : List Event). Coherence es one.1.1 a b) (sym inside.events) h))
      name)

  module _ (growths : List Growth) (n : ℕ) (inputs : List (Bor Column)) (k : ℕ) (others : List (Bor Column))
      (l : ℕ) (grown : AreInputsGrown growths n inputs k others l) where
    pub events_same : (source : Source)
        → SameSet (EventsAt n one inputs k source) (EventsAt n more others l source)
    events_same (sources.Predefined name) = set_same n name
    events_same (sources.Input index) = grown.events index
    events_same (sources.Own position) = λ a. ((λ x. x), (λ x. x))

    -- where the names of the group itself have the same pairs
    pub pairs_grown : (own after : ℕ → ℕ → ℕ → Type 0) → ((position : ℕ) → Same (own position) (after position))
        → (source : Source)
        → IsGrowthBetween (source_growth growths source) (WithOwn (PairsAt n one inputs k) own source)
        (WithOwn (PairsAt n more others l) after source)
    pairs_grown own after same (sources.Predefined name) = names_grown n name
    pairs_grown own after same (sources.Input index) = grown.pairs index
    pairs_grown own after same (sources.Own position) = same position
