-- Behind each item the names and the columns go on being the same.
use Rattle.std.proofs.Common.{ℕ, zero, suc, ◌≡◌, ◌<◌, ◌+◌, ◌⊎◌, inl, inr, List, [], ◌∷◌, ◌++◌, length, map, reverse, Some, None, refl, ap, sym, ◌∙◌, subst, arith}
use Rattle.std.specs.Prelude.{slice_get}
use Rattle.text_values.specs.declared.model.Binding as code_binding
use Rattle.text_values.specs.ModelValue.{Term}
use Rattle.text_values.specs.ModelValues.{term_of, binding_of}
use Rattle.binding_kinds.specs.declared.kinds.Kind.TheVariants as kinds
use Rattle.binding_kinds.specs.declared.scope.Binder.TheVariants as binders
use Rattle.binding_kinds.specs.declared.scope.Input.{Input}
use Rattle.binding_kinds.specs.declared.scope.Used.{Used}
use Rattle.binding_kinds.specs.Value.{Naming, bound_value_of}
use Rattle.binding_kinds.specs.Faults.{naming_at, with_own, with_all}
use Rattle.binding_kinds.specs.Functions.{formula_in, sense_of_function}
use Rattle.binding_kinds.specs.Senses.{Sense, kind_in}
use Rattle.binding_graph.specs.declared.resolved.ResolvedItem.{ResolvedItem}
use Rattle.binding_graph.specs.Usages.{Usage, with_values, usage_of_function}
use Rattle.candidate_spaces.specs.declared.candidate.Space.{Space}
use Rattle.candidate_spaces.specs.Space.{Candidate}
use Rattle.cat_machine.specs.Executions.{events_of}
use Rattle.from_scratch.proofs.Ordered.{all_reverse}
use Rattle.meaning.specs.Names.{Name}
use Rattle.meaning.specs.Sets.{Relation}
use Rattle.meaning.specs.Cat.{ARelation, Bound, ToMeaning, Names, meaning_of, with_group, with_bodies}
use Rattle.meaning_items.specs.Formulas.{HasNames}
use Rattle.meaning_items.specs.Bound.{value_at}
use Rattle.meaning_items.proofs.Items.{AreSound}
use Rattle.meaning_items.proofs.Slots.{names_more, names_both, formula_below}
use Rattle.meaning_items.specs.Groups.{name_at, term_at}
use Rattle.meaning_items.specs.Slots.{IsSlotMeant, AreSlotsMeant}
use Rattle.meaning_items.proofs.Growing.{Grows, senses_grown, usages_grown, named_grown, used_grown, slots_more}
use Rattle.meaning_items.proofs.Naming.{IsNamed, naming_more, AreNamedSenses, AreUsedNames, IsUsedName, AreNamedUsages, formula_named, values_named}
use Rattle.meaning_items.proofs.Used.{HasSlot, IsCovered, Covers, AllCover, used_slot, slot_reversed, covered}

-- what is known behind items, of which the latest is the first
pub record IsState (space : Space) (k : ℕ) (one : Candidate) (ss : List Sense)
    (usages : List Usage) (names : List Naming) (N : Names ℕ) (rs : List ResolvedItem) : Type 1 where
  pub sound : AreSound (λ a. a < events_of one) ss names N
  pub senses : AreNamedSenses names ss
  pub covers : AllCover usages ss
  pub named : AreNamedUsages names usages
  pub as_many : length usages ≡ length ss
  pub meant : AreSlotsMeant space rs k one names N

-- ---- the names of groups

pub all_grow : (ss : List Sense) (outer : List Naming) (item at : ℕ)
    (bs : List code_binding.Binding) (names : List Naming)
    → Grows names (with_all ss outer names item at (map bound_value_of bs))
all_grow ss outer item at [] names slot n e = e
all_grow ss outer item at (b ∷ bs) names slot n e =
    all_grow ss outer item (suc at) bs
    (naming_at item at (bound_value_of b) (kind_in ss outer (term_of b.body)) ∷ names) slot n
    (naming_more names (naming_at item at (bound_value_of b) (kind_in ss outer (term_of b.body))) slot n e)

module _ (space : Space) (rs : List ResolvedItem) (k : ℕ) (one : Candidate) where
  pub group_meant : (R : Name → Relation ℕ) (item at : ℕ) (bs : List code_binding.Binding)
      (names : List Naming) (N : Names ℕ) → length names ≡ length N
      → AreSlotsMeant space rs k one names N
      → ((j : ℕ) → j < length bs → IsSlotMeant space rs k one kinds.OfRelation
      (ARelation (R (name_at (map binding_of bs) j)))
      (binders.Bound (record { item = item; position = at + j })))
      → AreSlotsMeant space rs k one (with_own names item at (map bound_value_of bs))
      (with_group R (map binding_of bs) N)
  group_meant R item at [] names N same h new = h
  group_meant R item at (b ∷ bs) names N same h new =
      let here : at + 0 ≡ at = omega arith in
      group_meant R item (suc at) bs (naming_at item at (bound_value_of b) kinds.OfRelation ∷ names)
      ((b.name, ToMeaning (ARelation (R b.name))) ∷ N) (ap suc same)
      (slots_more space rs k one names N same h (naming_at item at (bound_value_of b) kinds.OfRelation)
      (b.name, ToMeaning (ARelation (R b.name)))
      (subst
      (λ (p : ℕ). IsSlotMeant space rs k one kinds.OfRelation (ARelation (R b.name))
      (binders.Bound (record { item = item; position = p }))) here (new 0 (omega arith))))
      (λ j lt.
      let next : at + suc j ≡ suc at + j = omega arith in
      subst
      (λ (p : ℕ). IsSlotMeant space rs k one kinds.OfRelation
      (ARelation (R (name_at (map binding_of bs) j)))
      (binders.Bound (record { item = item; position = p }))) next
      (new (suc j) (omega (arith, lt))))

  pub bodies_meant : (ss : List Sense) (outer : List Naming) (O : Names ℕ) (item at : ℕ)
      (bs : List code_binding.Binding) (names : List Naming) (N : Names ℕ)
      → length names ≡ length N → AreSlotsMeant space rs k one names N
      → ((j : ℕ) → j < length bs → IsSlotMeant space rs k one
      (kind_in ss outer (term_at (map binding_of bs) j))
      (meaning_of (λ a. a < events_of one) O (term_at (map binding_of bs) j))
      (binders.Bound (record { item = item; position = at + j })))
      → AreSlotsMeant space rs k one (with_all ss outer names item at (map bound_value_of bs))
      (with_bodies (λ a. a < events_of one) O (map binding_of bs) N)
  bodies_meant ss outer O item at [] names N same h new = h
  bodies_meant ss outer O item at (b ∷ bs) names N same h new =
      let here : at + 0 ≡ at = omega arith in
      let t : Term = term_of b.body in
      bodies_meant ss outer O item (suc at) bs
      (naming_at item at (bound_value_of b) (kind_in ss outer t) ∷ names)
      ((b.name, ToMeaning (meaning_of (λ a. a < events_of one) O t)) ∷ N) (ap suc same)
      (slots_more space rs k one names N same h
      (naming_at item at (bound_value_of b) (kind_in ss outer t))
      (b.name, ToMeaning (meaning_of (λ a. a < events_of one) O t))
      (subst
      (λ (p : ℕ). IsSlotMeant space rs k one (kind_in ss outer t)
      (meaning_of (λ a. a < events_of one) O t)
      (binders.Bound (record { item = item; position = p }))) here (new 0 (omega arith))))
      (λ j lt.
      let next : at + suc j ≡ suc at + j = omega arith in
      subst
      (λ (p : ℕ). IsSlotMeant space rs k one (kind_in ss outer (term_at (map binding_of bs) j))
      (meaning_of (λ a. a < events_of one) O (term_at (map binding_of bs) j))
      (binders.Bound (record { item = item; position = p }))) next
      (new (suc j) (omega (arith, lt))))

-- ---- one function more

last_or_before : {X : Type 0} (xs : List X) (x : X) (f : ℕ) (y : X)
    → slice_get (xs ++ x ∷ []) f ≡ Some y
    → (slice_get xs f ≡ Some y) ⊎ ((f ≡ length xs) × (x ≡ y))
last_or_before [] x zero y e =
    let same : x ≡ y = let f : Some x ≡ Some y = e in cc in inr (refl, same)
last_or_before [] x (suc f) y e = absurd (let g : None ≡ Some y = e in cc)
last_or_before (z ∷ xs) x zero y e = inl e
last_or_before (z ∷ xs) x (suc f) y e = next (last_or_before xs x f y e)
  where
    next : (slice_get xs f ≡ Some y) ⊎ ((f ≡ length xs) × (x ≡ y))
        → (slice_get xs f ≡ Some y) ⊎ ((suc f ≡ suc (length xs)) × (x ≡ y))
    next (inl h) = inl h
    next (inr h) = inr (ap suc h.0, h.1)

before_last : {X : Type 0} (xs : List X) (x : X) (f : ℕ) (y : X) → slice_get xs f ≡ Some y
    → slice_get (xs ++ x ∷ []) f ≡ Some y
before_last [] x f y e = absurd (let g : None ≡ Some y = e in cc)
before_last (z ∷ xs) x zero y e = e
before_last (z ∷ xs) x (suc f) y e = before_last xs x f y e

the_last : {X : Type 0} (xs : List X) (x : X) (f : ℕ) → f ≡ length xs
    → slice_get (xs ++ x ∷ []) f ≡ Some x
the_last [] x zero e = refl
the_last [] x (suc f) e = absurd (omega (arith, e))
the_last (z ∷ xs) x zero e = absurd (omega (arith, e))
the_last (z ∷ xs) x (suc f) e = the_last xs x f (omega (arith, e))

pub one_longer : {X : Type 0} (xs : List X) (x : X) → length (xs ++ x ∷ []) ≡ suc (length xs)
one_longer [] x = refl
one_longer (y ∷ xs) x = ap suc (one_longer xs x)

module _ (space : Space) (k : ℕ) (one : Candidate) (ss : List Sense) (usages : List Usage)
    (names : List Naming) (N : Names ℕ) (rs : List ResolvedItem)
    (state : IsState space k one ss usages names N rs) (item : ℕ) (ps : List Name) (t : Term) where
  abbrev sense : Sense
  sense = sense_of_function ss names ps t

  abbrev usage : Usage
  usage = usage_of_function usages names item ps t

  abbrev used : List Used
  used = with_values usages names ps (length names) t []

  pub function_covers : Covers usage sense
  function_covers = record {
    arity = refl;
    names = names_more (λ g. IsCovered (length names) used g × (g.slot < length names))
        (λ g. (i : Input) → g.binder ≡ binders.Bound i → HasSlot (reverse used) g.slot)
        (λ g h i is. slot_reversed used g.slot (used_slot used g.slot (h.0 i is h.1)))
        (formula_in ss names ps t)
        (names_both (IsCovered (length names) used) (λ g. g.slot < length names)
        (formula_in ss names ps t)
        (covered usages ss names ps (length names) state.covers t [])
        (formula_below (λ a. a < events_of one) ss (value_at N) names N state.sound.same.1 ps t));
  }

  pub all_cover : AllCover (usages ++ usage ∷ []) (ss ++ sense ∷ [])
  all_cover f s e = at_place (last_or_before ss sense f s e)
    where
      at_place : (slice_get ss f ≡ Some s) ⊎ ((f ≡ length ss) × (sense ≡ s))
          → (u : Usage) × (slice_get (usages ++ usage ∷ []) f ≡ Some u) × Covers u s
      at_place (inl h) =
          let before = state.covers f s h in
          (before.0, before_last usages usage f before.0 before.1, before.2)
      at_place (inr h) = (
        usage,
        the_last usages usage f (h.0 ∙ sym state.as_many),
        subst (λ (q : Sense). Covers usage q) h.1 function_covers,
      )

  pub senses_named : (n : Naming) → AreNamedSenses (n ∷ names) (ss ++ sense ∷ [])
  senses_named n f s e = at_place (last_or_before ss sense f s e)
    where
      grow : Grows names (n ∷ names)
      grow slot m h = naming_more names n slot m h

      at_place : (slice_get ss f ≡ Some s) ⊎ ((f ≡ length ss) × (sense ≡ s))
          → HasNames (IsNamed (n ∷ names)) s.formula
      at_place (inl h) = senses_grown names (n ∷ names) grow ss state.senses f s h
      at_place (inr h) =
          subst (λ (q : Sense). HasNames (IsNamed (n ∷ names)) q.formula) h.1
          (names_more (IsNamed names) (IsNamed (n ∷ names)) (named_grown names (n ∷ names) grow)
          (formula_in ss names ps t) (formula_named ss names ps state.senses t))

  pub usages_named : (n : Naming) → AreNamedUsages (n ∷ names) (usages ++ usage ∷ [])
  usages_named n f u e = at_place (last_or_before usages usage f u e)
    where
      grow : Grows names (n ∷ names)
      grow slot m h = naming_more names n slot m h

      at_place : (slice_get usages f ≡ Some u) ⊎ ((f ≡ length usages) × (usage ≡ u))
          → AreUsedNames (n ∷ names) u.values
      at_place (inl h) = usages_grown names (n ∷ names) grow usages state.named f u h
      at_place (inr h) =
          subst (λ (v : Usage). AreUsedNames (n ∷ names) v.values) h.1
          (used_grown names (n ∷ names) grow (reverse used)
          (all_reverse (IsUsedName names) used
          (values_named usages names ps (length names) state.named t [] tt)))
