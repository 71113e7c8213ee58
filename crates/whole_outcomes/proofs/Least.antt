-- A recursive group has least values.
use Rattle.std.proofs.Common.{ℕ, ◌≡◌, ◌<◌, ◌≤◌, ◌+◌, ◌↔◌, ◌⊎◌, ◌∙◌, inl, inr, zero, suc, List, [], ◌∷◌, length, get_or, set, replicate, refl, sym, ap, subst, arith}
use Rattle.std.specs.Prelude.{slice_get, Option, Some}
use Rattle.std.proofs.lemmas.Bool.{cases_eq}
use Rattle.std.proofs.lemmas.List.{get_or-replicate, length-replicate}
use Rattle.std.proofs.lemmas.Option.{slice_get-get_or}
use Rattle.bit_rows.specs.Relation.{Relation, Has, IsRelation, room_of, no_slot}
use Rattle.bit_relations.proofs.Laws.{grows}
use Rattle.binding_graph.specs.declared.resolved.Source.{Source}
use Rattle.binding_graph.specs.Trees.{RelTree}
use Rattle.cat_machine.specs.Least.{IsLeast, AreMonotone, SolvesAt, body}
use Rattle.cat_machine.specs.Meaning.{MeansRelation}
use Rattle.cat_machine.specs.Named.{PairsFound, OwnPairs, WithOwn}
use Rattle.cat_machine.specs.Rising.{IsBelowSolution, AreEmpty, rooms}
use Rattle.cat_machine.proofs.Growing.{value_within, sound_step, rooms-set, empty_sound}
use Rattle.whole_outcomes.proofs.Trees.{IsToldSet, IsTold, no_pairs, told_relation, some_relation}
use Rattle.whole_outcomes.proofs.Named.{own_told}

module _ (n : ℕ) (few : n ≤ 128) (sets : Source → ℕ → Type 0) (outer : Source → ℕ → ℕ → Type 0)
    (told_sets : (source : Source) → IsToldSet n (sets source))
    (told_rels : (own : ℕ → ℕ → ℕ → Type 0) → ((x : ℕ) → IsTold n (own x)) → (source : Source)
    → IsTold n (WithOwn outer own source))
    (trees : List RelTree) (rises : AreMonotone trees) where
  abbrev Meant : List Relation → ℕ → ℕ → ℕ → Type 0
  Meant values x = MeansRelation n sets (WithOwn outer (OwnPairs n values)) (body trees x)

  -- what a body gives of the values
  next : (values : List Relation) → IsBelowSolution n sets outer trees values → (x : ℕ)
      → (r : Relation) × IsRelation r n (Meant values x)
  next values sound x =
      some_relation n few (Meant values x)
      (told_relation n sets (WithOwn outer (OwnPairs n values)) told_sets
      (told_rels (OwnPairs n values) (own_told n values sound.on)) (body trees x))

  -- a body gives more than the value of its name
  pub record Rises (values : List Relation) : Type 0 where
    pub name : ℕ
    pub there : name < length trees
    pub value : Relation
    pub is : IsRelation value n (Meant values name)
    pub less : room_of value < room_of (get_or values name no_slot)

  -- the pairs of a value by its number
  own_pairs : (values : List Relation) → IsBelowSolution n sets outer trees values → (x : ℕ)
      → x < length trees → (a b : ℕ) → OwnPairs n values x a b ↔ Has (get_or values x no_slot) a b
  own_pairs values sound x lt a b =
      let inside : x < length values = omega (arith, lt, sound.as_many) in
      let at : slice_get values x ≡ Some (get_or values x no_slot) = slice_get-get_or values x no_slot inside in (
        (λ h. (subst (λ (o : Option Relation). PairsFound o n a b) at h).1),
        (λ h. subst (λ (o : Option Relation). PairsFound o n a b) (sym at) ((sound.on x inside).0, h)),
      )

  -- one name: its value is what its body gives, or less
  one_name : (values : List Relation) → IsBelowSolution n sets outer trees values → (x : ℕ)
      → x < length trees → SolvesAt n sets outer trees values x ⊎ Rises values
  one_name values sound x lt =
      let (r, is) = next values sound x in
      let inside : x < length values = omega (arith, lt, sound.as_many) in
      elim
      (grows (get_or values x no_slot) r (sound.on x inside).1 is.regular
      ((sound.on x inside).0 ∙ sym is.count)
      (value_within n sets outer trees values x r rises sound lt is)) [
        | inl same ↦ inl (λ a b.
            let own = own_pairs values sound x lt a b in (
              (λ h. (is.pairs a b).0 (subst (λ (q : Relation). Has q a b) same (own.0 h))),
              (λ h. own.1 (subst (λ (q : Relation). Has q a b) (sym same) ((is.pairs a b).1 h))),
            ))
        | inr less ↦ inr (record { name = x; there = lt; value = r; is = is; less = less })
      ]

  -- the first names
  some_names : (values : List Relation) → IsBelowSolution n sets outer trees values → (m : ℕ)
      → m ≤ length trees
      → ((x : ℕ) → x < m → SolvesAt n sets outer trees values x) ⊎ Rises values
  some_names values sound zero le = inl (λ x lt. absurd (omega (arith, lt)))
  some_names values sound (suc m) le =
      elim (some_names values sound m (omega (arith, le))) [
        | inl solved ↦ elim (one_name values sound m (omega (arith, le))) [
          | inl this ↦ inl (λ x lt. elim (cases_eq x m) [
            | inl same ↦ subst (λ (y : ℕ). SolvesAt n sets outer trees values y) (sym same) this
            | inr other ↦ solved x (omega (arith, lt, other))
          ])
          | inr rises ↦ inr rises
        ]
        | inr rises ↦ inr rises
      ]

  -- while there is room, values rise
  climb : (room : ℕ) (values : List Relation) → IsBelowSolution n sets outer trees values
      → rooms values < room → (found : List Relation) × IsLeast n sets outer trees found
  climb zero values sound lt = absurd (omega (arith, lt))
  climb (suc room) values sound lt =
      elim (some_names values sound (length trees) (omega arith)) [
        | inl solved ↦ (
          values,
          record {
            as_many = sound.as_many;
            on = sound.on;
            solves = solved;
            inside = sound.inside;
          },
        )
        | inr up ↦
            let inside : up.name < length values = omega (arith, up.there, sound.as_many) in
            let less = rooms-set values up.name up.value inside up.less in
            climb room (set values up.name up.value)
            (sound_step n sets outer trees values up.name up.value rises sound up.there up.is)
            (omega (arith, less, lt))
      ]

  -- from no pairs on
  pub least_found : (found : List Relation) × IsLeast n sets outer trees found
  least_found =
      let (none, is) = some_relation n few (λ a b. ⊥) (no_pairs n) in
      let values : List Relation = replicate (length trees) none in
      let many : length values ≡ length trees = length-replicate (length trees) none in
      let empty : AreEmpty n (length values) values =
      λ x lt. subst (λ (q : Relation). IsRelation q n (λ a b. ⊥))
      (sym (get_or-replicate (length trees) x none no_slot (omega (arith, lt, many)))) is in
      climb (suc (rooms values)) values (empty_sound n sets outer trees values empty many) (omega arith)
