-- One body of a round, evaluated.
use Rattle.std.proofs.Common.{ℕ, ◌≡◌, ◌<◌, ◌+◌, ◌↔◌, ◌⊎◌, ◌∙◌, inl, inr, List, [], ◌∷◌, length, get_or, set, refl, sym, ap, get_or-set_same}
use Rattle.bit_rows.specs.Relation.{Relation, IsRelation, IsSubset, no_slot}
use Rattle.binding_graph.specs.declared.resolved.Source.{Source}
use Rattle.binding_graph.specs.declared.resolved.Body.{Body}
use Rattle.binding_graph.specs.Trees.{RelTree, rel_code}
use Rattle.cat_machine.specs.Least.{AreMonotone, body}
use Rattle.cat_machine.specs.Meaning.{MeansRelation}
use Rattle.cat_machine.specs.Named.{OwnPairs, WithOwn}
use Rattle.cat_machine.specs.Rising.{IsFixpointRound, AreCodes}
use Rattle.cat_machine.specs.Uses.{ShareBit, IsAmong}
use Rattle.cat_machine.proofs.Growing.{value_within, round_grows, round_stays, code_at, codes_long}

-- the names with one more
abbrev pub Gains : ℕ → ℕ → ℕ → Type 0
Gains names x more = (k : ℕ) → IsAmong more k ↔ (IsAmong names k ⊎ ShareBit x k)

module _ (n : ℕ) (sets : Source → ℕ → Type 0) (outer : Source → ℕ → ℕ → Type 0)
    (trees : List RelTree) (bodies : List Body) (values : List Relation) (todo x grew : ℕ)
    (b : Body) (stack : List Relation)
    (codes : AreCodes trees bodies) (fit : AreMonotone trees)
    (round : IsFixpointRound n sets outer trees values todo x grew) (inside : x < length bodies)
    (here : b ≡ get_or bodies x b)
    (evaluated : (t : RelTree) → b.code.steps.items ≡ rel_code t []
    → (v : Relation) × (stack ≡ v ∷ [])
    × IsRelation v n (MeansRelation n sets (WithOwn outer (OwnPairs n values)) t)) where
  lt : x < length trees
  lt = rw (codes_long trees bodies codes) inside

  in_values : x < length values
  in_values = rw round.sound.as_many lt

  value : (v : Relation) × (stack ≡ v ∷ [])
      × IsRelation v n (MeansRelation n sets (WithOwn outer (OwnPairs n values)) (body trees x))
  value =
      evaluated (body trees x) (ap (λ (y : Body). y.code.steps.items) here
      ∙ code_at trees bodies x b codes lt)

  written : (new : List Relation)
      → ((v : Relation) (rest : List Relation) → stack ≡ v ∷ rest
      → v.count ≡ (get_or values x no_slot).count → IsSubset (get_or values x no_slot) v
      → new ≡ set values x v) → new ≡ set values x value.0
  written new keeps =
      keeps value.0 [] value.1 (value.2.count ∙ sym (round.sound.on x in_values).0)
      (value_within n sets outer trees values x value.0 fit round.sound lt value.2)

  pub turn_grows : (new : List Relation) (more : ℕ)
      → ((v : Relation) (rest : List Relation) → stack ≡ v ∷ rest
      → v.count ≡ (get_or values x no_slot).count → IsSubset (get_or values x no_slot) v
      → new ≡ set values x v) → Gains grew x more
      → IsFixpointRound n sets outer trees new todo (x + 1) more
  turn_grows new more keeps gains =
      rw (written new keeps)
      (round_grows n sets outer trees values x value.0 fit round.sound lt value.2 todo grew
      round.pending more (λ k h. (gains k).1 (inl h)) ((gains x).1 (inr refl)))

  pub turn_stays : (new : List Relation) → new ≡ values
      → ((v : Relation) (rest : List Relation) → stack ≡ v ∷ rest
      → v.count ≡ (get_or values x no_slot).count → IsSubset (get_or values x no_slot) v
      → new ≡ set values x v) → IsFixpointRound n sets outer trees new todo (x + 1) grew
  turn_stays new old keeps =
      let e : values ≡ set values x value.0 = sym old ∙ written new keeps in
      let same : value.0 ≡ get_or values x no_slot = sym (get_or-set_same values x value.0 no_slot in_values) ∙ ap (λ (vs : List Relation). get_or vs x no_slot) (sym e) in
      rw old (round_stays n sets outer trees values x value.0 fit round.sound lt value.2 todo grew
      round.pending same)
