-- What a step does to the values on the stacks, seen the latest first.
use Rattle.std.proofs.Common.{ℕ, ◌≡◌, List, [], ◌∷◌, refl, sym, ◌∙◌}
use Rattle.bit_rows.specs.Pairs.{Complement, Composite, Product, On}
use Rattle.bit_rows.specs.Relation.{Relation, Has, IsRelation, Events, IsMember, IsEvents}
use Rattle.text_values.specs.declared.model.Postfix.{Postfix}
use Rattle.binding_graph.specs.declared.resolved.Blend.{Blend}
use Rattle.binding_graph.specs.declared.resolved.Source.{Source}
use Rattle.binding_graph.specs.Trees.{SetTree, RelTree}
use Rattle.cat_machine.specs.Meaning.{Blended, BlendedSets, Closed, Others, MeansRelation, MeansSet}
use Rattle.cat_machine.specs.Running.{AreSets, AreRels, set_blend, with_complement_set, rel_blend, rel_then, rel_close, with_complement_relation, rel_cross, rel_on}
use Rattle.cat_machine.proofs.Same.{changed, changed_set, same_blend, same_then, same_close, same_turn, same_cross, same_on, same_sets, same_others}

module _ (n : ℕ) (sets : Source → ℕ → Type 0) (rels : Source → ℕ → ℕ → Type 0) where
  pub sets_blended : (how : Blend) (ss : List SetTree) (u v w : Events) (vs : List Events)
      → IsEvents u v.count (BlendedSets how (IsMember v) (IsMember w))
      → AreSets n sets ss (w ∷ v ∷ vs) → AreSets n sets (set_blend how ss) (u ∷ vs)
  sets_blended how [] u v w vs r h = absurd h
  sets_blended how (t ∷ []) u v w vs r h = absurd h.1
  sets_blended how (t ∷ s ∷ ss) u v w vs r h = (
    changed_set u n _ _ (same_sets how (IsMember v) _ (IsMember w) _ h.1.0.members h.0.members)
        (rw h.1.0.count at r),
    h.1.1,
  )

  pub sets_turned : (ss : List SetTree) (u v : Events) (vs : List Events)
      → IsEvents u v.count (Others v.count (IsMember v)) → AreSets n sets ss (v ∷ vs)
      → AreSets n sets (with_complement_set ss) (u ∷ vs)
  sets_turned [] u v vs r h = absurd h
  sets_turned (s ∷ ss) u v vs r h =
      (changed_set u n _ _ (same_others n (IsMember v) _ h.0.members) (rw h.0.count at r), h.1)

  -- the two latest sets are of as many events
  pub sets_agree : (ss : List SetTree) (v w : Events) (vs : List Events)
      → AreSets n sets ss (w ∷ v ∷ vs) → w.count ≡ v.count
  sets_agree [] v w vs h = absurd h
  sets_agree (t ∷ []) v w vs h = absurd h.1
  sets_agree (t ∷ s ∷ ss) v w vs h = h.0.count ∙ sym h.1.0.count

  pub rels_agree : (es : List RelTree) (v w : Relation) (vs : List Relation)
      → AreRels n sets rels es (w ∷ v ∷ vs) → w.count ≡ v.count
  rels_agree [] v w vs h = absurd h
  rels_agree (f ∷ []) v w vs h = absurd h.1
  rels_agree (f ∷ e ∷ es) v w vs h = h.0.count ∙ sym h.1.0.count

  pub rels_blended : (how : Blend) (es : List RelTree) (u v w : Relation) (vs : List Relation)
      → IsRelation u v.count (Blended how (Has v) (Has w)) → AreRels n sets rels es (w ∷ v ∷ vs)
      → AreRels n sets rels (rel_blend how es) (u ∷ vs)
  rels_blended how [] u v w vs r h = absurd h
  rels_blended how (f ∷ []) u v w vs r h = absurd h.1
  rels_blended how (f ∷ e ∷ es) u v w vs r h = (
    changed u n _ _ (same_blend how (Has v) _ (Has w) _ h.1.0.pairs h.0.pairs)
        (rw h.1.0.count at r),
    h.1.1,
  )

  pub rels_composed : (es : List RelTree) (u v w : Relation) (vs : List Relation)
      → IsRelation u v.count (Composite (Has v) (Has w)) → AreRels n sets rels es (w ∷ v ∷ vs)
      → AreRels n sets rels (rel_then es) (u ∷ vs)
  rels_composed [] u v w vs r h = absurd h
  rels_composed (f ∷ []) u v w vs r h = absurd h.1
  rels_composed (f ∷ e ∷ es) u v w vs r h = (
    changed u n _ _ (same_then (Has v) _ (Has w) _ h.1.0.pairs h.0.pairs) (rw h.1.0.count at r),
    h.1.1,
  )

  pub rels_closed : (how : Postfix) (es : List RelTree) (u v : Relation) (vs : List Relation)
      → IsRelation u v.count (Closed how v.count (Has v)) → AreRels n sets rels es (v ∷ vs)
      → AreRels n sets rels (rel_close how es) (u ∷ vs)
  rels_closed how [] u v vs r h = absurd h
  rels_closed how (e ∷ es) u v vs r h =
      (changed u n _ _ (same_close how n (Has v) _ h.0.pairs) (rw h.0.count at r), h.1)

  pub rels_turned : (es : List RelTree) (u v : Relation) (vs : List Relation)
      → IsRelation u v.count (Complement v.count (Has v)) → AreRels n sets rels es (v ∷ vs)
      → AreRels n sets rels (with_complement_relation es) (u ∷ vs)
  rels_turned [] u v vs r h = absurd h
  rels_turned (e ∷ es) u v vs r h =
      (changed u n _ _ (same_turn n (Has v) _ h.0.pairs) (rw h.0.count at r), h.1)

  pub rels_crossed : (ss : List SetTree) (es : List RelTree) (u : Relation) (v w : Events)
      (ws : List Events) (vs : List Relation)
      → IsRelation u v.count (Product (IsMember v) (IsMember w)) → AreSets n sets ss (w ∷ v ∷ ws)
      → AreRels n sets rels es vs → AreRels n sets rels (rel_cross ss es) (u ∷ vs)
  rels_crossed [] es u v w ws vs r h k = absurd h
  rels_crossed (t ∷ []) es u v w ws vs r h k = absurd h.1
  rels_crossed (t ∷ s ∷ ss) es u v w ws vs r h k = (
    changed u n _ _ (same_cross (IsMember v) _ (IsMember w) _ h.1.0.members h.0.members)
        (rw h.1.0.count at r),
    k,
  )

  pub rels_on : (ss : List SetTree) (es : List RelTree) (u : Relation) (w : Events)
      (ws : List Events) (vs : List Relation) → IsRelation u w.count (On (IsMember w))
      → AreSets n sets ss (w ∷ ws) → AreRels n sets rels es vs
      → AreRels n sets rels (rel_on ss es) (u ∷ vs)
  rels_on [] es u w ws vs r h k = absurd h
  rels_on (s ∷ ss) es u w ws vs r h k =
      (changed u n _ _ (same_on (IsMember w) _ h.0.members) (rw h.0.count at r), k)

  -- a value on a stack of one tree
  pub rels_last : (t : RelTree) (vs : List Relation) → AreRels n sets rels (t ∷ []) vs
      → (v : Relation) × (vs ≡ v ∷ []) × IsRelation v n (MeansRelation n sets rels t)
  rels_last t [] h = absurd h
  rels_last t (v ∷ []) h = (v, refl, h.0)
  rels_last t (v ∷ w ∷ vs) h = absurd h.1

  pub sets_last : (t : SetTree) (vs : List Events) → AreSets n sets (t ∷ []) vs
      → (v : Events) × (vs ≡ v ∷ []) × IsEvents v n (MeansSet n sets t)
  sets_last t [] h = absurd h
  sets_last t (v ∷ []) h = (v, refl, h.0)
  sets_last t (v ∷ w ∷ vs) h = absurd h.1
