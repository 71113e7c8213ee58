-- The bodies of a recursive group without fault give what their trees give.
use Rattle.std.proofs.Common.{ℕ, zero, suc, ◌≡◌, ◌<◌, ◌≤◌, ◌+◌, ◌↔◌, ◌⊎◌, inl, inr, List, [], ◌∷◌, length, map, Bool, true, false, ◌||◌, bytes_eq, Some, None, refl, ap, sym, ◌∙◌, subst, arith}
use Rattle.std.specs.Prelude.{◌-◌, ◌&&◌, nat_le, if◌then◌else◌}
use Rattle.std.proofs.lemmas.Bool.{le-leb, leb-true}
use Rattle.std.proofs.lemmas.Slice.Eq.{bytes_eq-Decides}
use Rattle.text_values.specs.declared.model.Binding as code_binding
use Rattle.text_values.specs.ModelValue.{Term}
use Rattle.text_values.specs.ModelValues.{term_of, binding_of}
use Rattle.binding_kinds.specs.declared.fault.ModelFault.TheVariants as faults
use Rattle.binding_kinds.specs.declared.kinds.Kind.{Kind}
use Rattle.binding_kinds.specs.declared.kinds.Kind.TheVariants.{OfSet, OfRelation, OfAny}
use Rattle.binding_kinds.specs.declared.scope.Binder.{Binder}
use Rattle.binding_kinds.specs.declared.scope.Binder.TheVariants as binders
use Rattle.binding_kinds.specs.declared.scope.Found.{Found}
use Rattle.binding_kinds.specs.declared.scope.Used.{Used}
use Rattle.binding_kinds.specs.Value.{Naming, bound_value_of}
use Rattle.binding_kinds.specs.Value as values
use Rattle.binding_kinds.specs.Kinds.{found}
use Rattle.binding_kinds.specs.Faults.{naming_at, with_own}
use Rattle.binding_kinds.specs.First.{let_fault, first_in}
use Rattle.binding_kinds.specs.Verdict.{is_seen, is_of_set}
use Rattle.binding_kinds.specs.Fits.{IsKnown, IsValue}
use Rattle.binding_kinds.specs.Formula.{Formula}
use Rattle.binding_kinds.specs.Functions.{formula_in}
use Rattle.binding_kinds.specs.Senses.{Sense, kind_in, term_fault}
use Rattle.binding_kinds.proofs.Fitted.{fit, fit_known, known_own}
use Rattle.binding_graph.specs.declared.resolved.Source.{Source}
use Rattle.binding_graph.specs.declared.resolved.Source.TheVariants as sources
use Rattle.binding_graph.specs.Meaning.{source_of, source_of_binder, set_tree, rel_tree}
use Rattle.cat_machine.specs.Least.{body}
use Rattle.cat_machine.specs.Meaning.{MeansSet, MeansRelation}
use Rattle.cat_machine.specs.Named.{WithOwn}
use Rattle.meaning.specs.Sets.{Relation}
use Rattle.meaning.specs.Names.{Name}
use Rattle.meaning.specs.Cat.{Meaning, ASet, ARelation, Nothing, Bound, ToMeaning, Names, meaning_of, HasPair, with_group}
use Rattle.meaning_items.specs.Formulas.{HasNames}
use Rattle.meaning_items.specs.Bound.{value_at}
use Rattle.meaning_items.specs.Alike.{IsAs, HasSource, HasOuterSources}
use Rattle.meaning_items.specs.Groups.{name_at, term_at, AreApart}
use Rattle.meaning_items.proofs.Applying.{none_first, IsSeen}
use Rattle.meaning_items.proofs.Slots.{names_more, names_both, found_below, formula_names, sense_names, older_values, latest_value}
use Rattle.meaning_items.proofs.Items.{group_same, AreSound}
use Rattle.meaning_items.proofs.Terms.{term_as}

-- ---- names of the group

-- the name is that of a position of the group, whose slots begin at `from`
abbrev pub IsOwnName : ℕ → ℕ → ℕ → ℕ → Found → Type 0
IsOwnName item from at count g =
    (j : ℕ) × (j < count) × (g.slot ≡ from + j) × (g.kind ≡ OfRelation)
    × (g.binder ≡ binders.Bound (record { item = item; position = at + j }))

pub own_found : (item at : ℕ) (bs : List values.Bound) (names : List Naming) (x : Name) (g : Found)
    → found (with_own names item at bs) x ≡ Some g
    → (found names x ≡ Some g) ⊎ IsOwnName item (length names) at (length bs) g
own_found item at [] names x g e = inl e
own_found item at (b ∷ bs) names x g e =
    at_rest (own_found item (suc at) bs (naming_at item at b OfRelation ∷ names) x g e)
  where
    at_test : (t : Bool)
        → (if t then Some (record { slot = length names; kind = OfRelation; binder = binders.Bound (record { item = item; position = at }) })
        else found names x) ≡ Some g
        → (found names x ≡ Some g) ⊎ IsOwnName item (length names) at (suc (length bs)) g
    at_test true h =
        let f : Found = record { slot = length names; kind = OfRelation; binder = binders.Bound (record { item = item; position = at }) } in
        let same : f ≡ g = let q : Some f ≡ Some g = h in cc in
        let here : at ≡ at + 0 = omega arith in
        inr (subst (IsOwnName item (length names) at (suc (length bs))) same (
          0,
          omega arith,
          omega arith,
          refl,
          ap (λ (p : ℕ). binders.Bound (record { item = item; position = p })) here,
        ))
    at_test false h = inl h

    at_rest : (found (naming_at item at b OfRelation ∷ names) x ≡ Some g)
        ⊎ IsOwnName item (suc (length names)) (suc at) (length bs) g
        → (found names x ≡ Some g) ⊎ IsOwnName item (length names) at (suc (length bs)) g
    at_rest (inl h) = at_test (bytes_eq b.name x) h
    at_rest (inr h) =
        let lt = h.1 in
        let is = h.2 in
        let next : suc at + h.0 ≡ at + suc h.0 = omega arith in
        inr (
          suc h.0,
          omega (arith, lt),
          omega (arith, is),
          h.3,
          h.4 ∙ ap (λ (p : ℕ). binders.Bound (record { item = item; position = p })) next,
        )

pub older_group : (R : Name → Relation ℕ) (bs : List code_binding.Binding) (N : Names ℕ) (slot : ℕ)
    → slot < length N → value_at (with_group R (map binding_of bs) N) slot ≡ value_at N slot
older_group R [] N slot lt = refl
older_group R (b ∷ bs) N slot lt =
    let one : Name × Bound ℕ = (b.name, ToMeaning (ARelation (R b.name))) in
    older_group R bs (one ∷ N) slot (omega (arith, lt))
    ∙ sym (older_values one N (length N) refl slot lt)

pub own_value : (R : Name → Relation ℕ) (bs : List code_binding.Binding) (N : Names ℕ) (j : ℕ)
    → j < length bs → (slot : ℕ) → slot ≡ length N + j
    → value_at (with_group R (map binding_of bs) N) slot
    ≡ ARelation (R (name_at (map binding_of bs) j))
own_value R [] N j lt slot is = absurd (omega (arith, lt))
own_value R (b ∷ bs) N zero lt slot is =
    let one : Name × Bound ℕ = (b.name, ToMeaning (ARelation (R b.name))) in
    older_group R bs (one ∷ N) slot (omega (arith, is)) ∙ latest_value one N slot (omega (arith, is))
own_value R (b ∷ bs) N (suc j) lt slot is =
    own_value R bs ((b.name, ToMeaning (ARelation (R b.name))) ∷ N) j (omega (arith, lt)) slot
    (omega (arith, is))

-- ---- sources

own_source : (us : List Used) (from : ℕ) (g : Found) (j : ℕ) → g.slot ≡ from + j
    → source_of us from g ≡ sources.Own j
own_source us from g j is =
    let back : g.slot - from ≡ j = omega (arith, is) in
    ap (λ (t : Bool). if t then sources.Own (g.slot - from) else source_of_binder us g.slot g.binder)
    (le-leb from g.slot (omega (arith, is)))
    ∙ ap (λ (k : ℕ). sources.Own k) back

pub outer_pairs : (outer : Source → ℕ → ℕ → Type 0) (P : ℕ → ℕ → ℕ → Type 0) (us : List Used)
    (from : ℕ) (g : Found) → g.slot < from
    → WithOwn outer P (source_of us from g) ≡ outer (source_of us from g)
outer_pairs outer P us from g lt = at_test (nat_le from g.slot) (leb-true from g.slot)
  where
    at_binder : (b : Binder)
        → WithOwn outer P (source_of_binder us g.slot b) ≡ outer (source_of_binder us g.slot b)
    at_binder (binders.Predefined p) = refl
    at_binder (binders.Bound i) = refl
    at_binder (binders.Applicable f) = refl

    at_test : (t : Bool) → (t ≡ true → from ≤ g.slot)
        → WithOwn outer P (if t then sources.Own (g.slot - from) else source_of_binder us g.slot g.binder)
        ≡ outer (if t then sources.Own (g.slot - from) else source_of_binder us g.slot g.binder)
    at_test true le = let past = le refl in absurd (omega (arith, past, lt))
    at_test false le = at_binder g.binder

-- ---- bodies

-- the bodies of a group have no fault, and are relations
pub record AreFaultless (ss : List Sense) (own : List Naming) (from : ℕ)
    (earlier : List Name) (bs : List code_binding.Binding) : Type 0 where
  pub unseen : (j : ℕ) → j < length bs → is_seen earlier (name_at (map binding_of bs) j) ≡ false
  pub no_set : (j : ℕ) → j < length bs
      → is_of_set (kind_in ss own (term_at (map binding_of bs) j)) ≡ false
  pub no_fault : (j : ℕ) → j < length bs
      → term_fault ss own from false (term_at (map binding_of bs) j) ≡ None
  pub apart : AreApart (map binding_of bs)

let_right : (seen set : Bool)
    → (if seen then Some faults.Duplicate else if set then Some faults.SetInRec else None) ≡ None
    → (seen ≡ false) × (set ≡ false)
let_right true set e = absurd (let f : Some faults.Duplicate ≡ None = e in cc)
let_right false true e = absurd (let f : Some faults.SetInRec ≡ None = e in cc)
let_right false false e = (refl, refl)

not_either : (a b : Bool) → (a || b) ≡ false → (a ≡ false) × (b ≡ false)
not_either true b e = absurd (let f : true ≡ false = e in cc)
not_either false b e = (refl, e)

pub long_bindings : (bs : List code_binding.Binding) → length (map binding_of bs) ≡ length bs
long_bindings [] = refl
long_bindings (b ∷ bs) = ap suc (long_bindings bs)

pub faultless_group : (ss : List Sense) (own : List Naming) (from : ℕ) (earlier : List Name)
    (bs : List code_binding.Binding) → first_in ss own from true earlier (map bound_value_of bs) ≡ None
    → AreFaultless ss own from earlier bs
faultless_group ss own from earlier [] none = record {
  unseen = λ j lt. absurd (omega (arith, lt));
  no_set = λ j lt. absurd (omega (arith, lt));
  no_fault = λ j lt. absurd (omega (arith, lt));
  apart = tt;
}
faultless_group ss own from earlier (b ∷ bs) none =
    let one = none_first (let_fault ss own true earlier (bound_value_of b)) _ none in
    let two = none_first (term_fault ss own from false (term_of b.body)) _ one.1 in
    let rest = faultless_group ss own from (b.name ∷ earlier) bs two.1 in
    let here = let_right (is_seen earlier b.name) (is_of_set (kind_in ss own (term_of b.body))) one.0 in
    record {
      unseen = unseen_at here.0 rest.unseen;
      no_set = no_set_at here.1 rest.no_set;
      no_fault = no_fault_at two.0 rest.no_fault;
      apart = (
        λ j lt same.
            let l = long_bindings bs in
            let off = (not_either (bytes_eq b.name (name_at (map binding_of bs) j))
            (is_seen earlier (name_at (map binding_of bs) j))
            (rest.unseen j (omega (arith, lt, l)))).0 in
            let on = (bytes_eq-Decides b.name (name_at (map binding_of bs) j)).1 same in
            (let f : true ≡ false = sym on ∙ off in cc),
        rest.apart,
      );
    }
  where
    unseen_at : is_seen earlier b.name ≡ false
        → ((j : ℕ) → j < length bs
        → is_seen (b.name ∷ earlier) (name_at (map binding_of bs) j) ≡ false)
        → (j : ℕ) → j < length (b ∷ bs)
        → is_seen earlier (name_at (map binding_of (b ∷ bs)) j) ≡ false
    unseen_at here rest zero lt = here
    unseen_at here rest (suc j) lt =
        (not_either (bytes_eq b.name (name_at (map binding_of bs) j)) _
        (rest j (omega (arith, lt)))).1

    no_set_at : is_of_set (kind_in ss own (term_of b.body)) ≡ false
        → ((j : ℕ) → j < length bs
        → is_of_set (kind_in ss own (term_at (map binding_of bs) j)) ≡ false)
        → (j : ℕ) → j < length (b ∷ bs)
        → is_of_set (kind_in ss own (term_at (map binding_of (b ∷ bs)) j)) ≡ false
    no_set_at here rest zero lt = here
    no_set_at here rest (suc j) lt = rest j (omega (arith, lt))

    no_fault_at : term_fault ss own from false (term_of b.body) ≡ None
        → ((j : ℕ) → j < length bs
        → term_fault ss own from false (term_at (map binding_of bs) j) ≡ None)
        → (j : ℕ) → j < length (b ∷ bs)
        → term_fault ss own from false (term_at (map binding_of (b ∷ bs)) j) ≡ None
    no_fault_at here rest zero lt = here
    no_fault_at here rest (suc j) lt = rest j (omega (arith, lt))

known_relation : (k : Kind) → IsKnown k → is_of_set k ≡ false → k ≡ OfRelation
known_relation OfSet known off = absurd (let f : true ≡ false = off in cc)
known_relation OfRelation known off = refl
known_relation OfAny known off = absurd known

pair_as : (m : Meaning ℕ) (T : ℕ → Type 0) (R : ℕ → ℕ → Type 0) → IsAs OfRelation m T R
    → (a b : ℕ) → HasPair m a b ↔ R a b
pair_as (ASet S) T R h a b = absurd h
pair_as (ARelation Q) T R h a b = h a b
pair_as Nothing T R h a b = absurd h

module _ (n : ℕ) (ss : List Sense) (names : List Naming) (N : Names ℕ)
    (sound : AreSound (λ a. a < n) ss names N) (item : ℕ) (bs : List code_binding.Binding)
    (sets : Source → ℕ → Type 0) (outer : Source → ℕ → ℕ → Type 0) where
  abbrev own : List Naming
  own = with_own names item 0 (map bound_value_of bs)

  long_bounds : (cs : List code_binding.Binding) → length (map bound_value_of cs) ≡ length cs
  long_bounds [] = refl
  long_bounds (b ∷ cs) = ap suc (long_bounds cs)

  -- the names of the group stand for these relations
  module _ (R : Name → Relation ℕ) (P : ℕ → ℕ → ℕ → Type 0)
      (same : (j : ℕ) → j < length bs → (a b : ℕ)
      → R (name_at (map binding_of bs) j) a b ↔ P j a b) where
    own_sound : AreSound (λ a. a < n) ss own (with_group R (map binding_of bs) N)
    own_sound = record {
      same = group_same (λ a. a < n) ss R item 0 bs names N sound.same;
      known = known_own names item 0 (map bound_value_of bs) sound.known;
      sound = sound.sound;
    }

    abbrev IsKnownName : Found → Type 0
    IsKnownName g =
        (g.slot < length names) ⊎ IsOwnName item (length names) 0 (length (map bound_value_of bs)) g

    known_names : (t : Term) → HasNames IsKnownName (formula_in ss own [] t)
    known_names t = formula_names IsKnownName ss own [] at_name at_sense t
      where
        at_place : (x : Name) (g : Found) → (found names x ≡ Some g)
            ⊎ IsOwnName item (length names) 0 (length (map bound_value_of bs)) g → IsKnownName g
        at_place x g (inl e) = inl (found_below names x g e)
        at_place x g (inr h) = inr h

        at_name : (x : Name) (g : Found) → found own x ≡ Some g → IsValue g.binder → IsKnownName g
        at_name x g e is = at_place x g (own_found item 0 (map bound_value_of bs) names x g e)

        at_sense : (count : ℕ) (x : Name) (s : Sense) → IsSeen ss own [] count x s
            → HasNames IsKnownName s.formula
        at_sense count x s h =
            names_more (λ g. g.slot < h.found_so.slot) IsKnownName
            (λ g lt. at_function (at_place x h.found_so
            (own_found item 0 (map bound_value_of bs) names x h.found_so h.is_found)) g lt)
            s.formula
            (sense_names (λ a. a < n) ss (value_at (with_group R (map binding_of bs) N)) own
            (with_group R (map binding_of bs) N) own_sound.same.1 [] count x s h)
          where
            at_function : IsKnownName h.found_so → (g : Found) → g.slot < h.found_so.slot
                → IsKnownName g
            at_function (inl below) g lt = inl (omega (arith, below, lt))
            at_function (inr k) g lt =
                absurd (let f : binders.Applicable h.function ≡ binders.Bound (record { item = item; position = 0 + k.0 }) = sym h.is_function ∙ k.4 in cc)

    source_at : (us : List Used) (g : Found)
        → IsKnownName g × (g.slot < length names
        → HasSource (value_at N) sets outer us (length names) g)
        → HasSource (value_at (with_group R (map binding_of bs) N)) sets (WithOwn outer P) us
        (length names) g
    source_at us g (inl lt, has) =
        let before = sound.same.0 in
        subst
        (λ (Q : ℕ → ℕ → Type 0). IsAs g.kind
        (value_at (with_group R (map binding_of bs) N) g.slot)
        (sets (source_of us (length names) g)) Q)
        (sym (outer_pairs outer P us (length names) g lt))
        (subst
        (λ (m : Meaning ℕ). IsAs g.kind m (sets (source_of us (length names) g))
        (outer (source_of us (length names) g)))
        (sym (older_group R bs N g.slot (omega (arith, lt, before)))) (has lt))
    source_at us g (inr h, has) =
        let before = sound.same.0 in
        let long = long_bounds bs in
        let lt = h.1 in
        let is = h.2 in
        subst
        (λ (k : Kind). IsAs k (value_at (with_group R (map binding_of bs) N) g.slot)
        (sets (source_of us (length names) g)) (WithOwn outer P (source_of us (length names) g)))
        (sym h.3)
        (subst
        (λ (m : Meaning ℕ). IsAs OfRelation m (sets (source_of us (length names) g))
        (WithOwn outer P (source_of us (length names) g)))
        (sym (own_value R bs N h.0 (omega (arith, lt, long)) g.slot (omega (arith, is, before))))
        (subst
        (λ (s : Source). IsAs OfRelation (ARelation (R (name_at (map binding_of bs) h.0))) (sets s)
        (WithOwn outer P s)) (sym (own_source us (length names) g h.0 h.2))
        (same h.0 (omega (arith, lt, long)))))

    pub body_as : (us : List Used) (t : Term) → term_fault ss own (length names) false t ≡ None
        → is_of_set (kind_in ss own t) ≡ false
        → HasOuterSources (value_at N) sets outer us (length names) (formula_in ss own [] t)
        → (a b : ℕ)
        → HasPair (meaning_of (λ a. a < n) (with_group R (map binding_of bs) N) t) a b
        ↔ MeansRelation n sets (WithOwn outer P) (rel_tree us (length names) (formula_in ss own [] t)) a b
    body_as us t none off has a b =
        let f : Formula = formula_in ss own [] t in
        let k = known_relation (kind_in ss own t)
        (fit_known ss own t sound.sound
        (fit ss own (length names) false t own_sound.known none)) off in
        pair_as (meaning_of (λ a. a < n) (with_group R (map binding_of bs) N) t)
        (MeansSet n sets (set_tree us (length names) f))
        (MeansRelation n sets (WithOwn outer P) (rel_tree us (length names) f))
        (subst
        (λ (kind : Kind). IsAs kind (meaning_of (λ a. a < n) (with_group R (map binding_of bs) N) t)
        (MeansSet n sets (set_tree us (length names) f))
        (MeansRelation n sets (WithOwn outer P) (rel_tree us (length names) f))) k
        (term_as n ss own (with_group R (map binding_of bs) N) own_sound (length names) t none sets
        (WithOwn outer P) us (length names)
        (names_more
        (λ g. IsKnownName g × (g.slot < length names
        → HasSource (value_at N) sets outer us (length names) g))
        (HasSource (value_at (with_group R (map binding_of bs) N)) sets (WithOwn outer P) us
        (length names)) (source_at us) f
        (names_both IsKnownName
        (λ g. g.slot < length names → HasSource (value_at N) sets outer us (length names) g) f
        (known_names t) has)))) a b
