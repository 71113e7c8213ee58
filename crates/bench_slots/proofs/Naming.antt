-- The slot of a name tells its binder, also after more names.
use Rattle.std.proofs.Common.{ℕ, ◌≡◌, ◌<◌, ◌≤◌, ◌+◌, suc, List, [], ◌∷◌, length, map, reverse, Option, Some, None, refl, ◌∙◌, subst, inl, inr, eq-eqb, eqb-true, ne_eqb, arith}
use Rattle.std.specs.Prelude.{◌==◌, bytes_eq, if◌then◌else◌}
use Rattle.std.specs.List.{AllByRecursion as Each}
use Rattle.std.proofs.lemmas.Bool.{cases_Bool}
use Rattle.std.proofs.lemmas.Option.{none-some, same_Some}
use Rattle.predefined_names.specs.declared.predefined.Predefined.{Predefined}
use Rattle.bench_slots.proofs.Lists.{each_reverse}
use Rattle.binding_kinds.specs.declared.kinds.Kind.TheVariants.{OfRelation}
use Rattle.binding_kinds.specs.declared.scope.Binder.{Binder}
use Rattle.binding_kinds.specs.declared.scope.Binder.TheVariants as binders
use Rattle.binding_kinds.specs.declared.scope.Found.{Found}
use Rattle.binding_kinds.specs.declared.scope.Input.{Input}
use Rattle.binding_kinds.specs.Value.{Naming, Bound}
use Rattle.binding_kinds.specs.Kinds.{found}
use Rattle.binding_kinds.specs.Outermost.{naming_of}
use Rattle.binding_kinds.specs.Senses.{Sense, kind_in}
use Rattle.binding_kinds.specs.Faults.{naming_at, with_own, with_all}

-- ---- binders by slots

abbrev pub binder_at : List Naming → ℕ → Option Binder
binder_at [] slot = None
binder_at (n ∷ ns) slot = if length ns == slot then Some n.binder else binder_at ns slot

pub at_below : (names : List Naming) (slot : ℕ) (b : Binder) → binder_at names slot ≡ Some b
    → slot < length names
at_below [] slot b h = absurd (none-some b h)
at_below (n ∷ ns) slot b h = elim (cases_Bool (length ns == slot)) [
  | inl e ↦ (let same = eqb-true (length ns) slot e in omega (arith, same))
  | inr f ↦ (let below = at_below ns slot b (rw f at h) in omega (arith, below))
]

pub one_more : (n : Naming) (names : List Naming) (slot : ℕ) → slot < length names
    → binder_at (n ∷ names) slot ≡ binder_at names slot
one_more n names slot lt =
    let unlike : length names ≡ slot → ⊥ = λ e. omega (arith, e, lt) in
    rw (ne_eqb (length names) slot unlike) refl

pub found_at : (names : List Naming) (x : List ℕ) (f : Found) → found names x ≡ Some f
    → binder_at names f.slot ≡ Some f.binder
found_at [] x f h = absurd (none-some f h)
found_at (n ∷ ns) x f h = elim (cases_Bool (bytes_eq n.name x)) [
  | inl e ↦ here (some_found (rw e at h))
  | inr g ↦ (let later = found_at ns x f (rw g at h) in
      one_more n ns f.slot (at_below ns f.slot f.binder later) ∙ later)
]
  where
    some_found : {a b : Found} → Some a ≡ Some b → a ≡ b
    some_found e = cc

    here : record { slot = length ns; kind = n.kind; binder = n.binder } ≡ f
        → binder_at (n ∷ ns) f.slot ≡ Some f.binder
    here e =
        subst (λ (g : Found). binder_at (n ∷ ns) g.slot ≡ Some g.binder) e
        (rw (eq-eqb (length ns) (length ns) refl) refl)

-- ---- the names of a group

pub own_same : (bs : List Bound) (names : List Naming) (item at slot : ℕ) → slot < length names
    → binder_at (with_own names item at bs) slot ≡ binder_at names slot
own_same [] names item at slot lt = refl
own_same (b ∷ bs) names item at slot lt =
    own_same bs (naming_at item at b OfRelation ∷ names) item (suc at) slot (omega (arith, lt))
    ∙ one_more (naming_at item at b OfRelation) names slot lt

-- ---- what each bound name is

-- each name that is not predefined is of a group below, and one of its names
abbrev pub NamesHold : (Input → Type 0) → List Naming → Type 0
NamesHold P names = (slot : ℕ) (i : Input) → binder_at names slot ≡ Some (binders.Bound i) → P i

pub names_more : (P : Input → Type 0) (n : Naming) (names : List Naming)
    → ((i : Input) → n.binder ≡ binders.Bound i → P i) → NamesHold P names → NamesHold P (n ∷ names)
names_more P n names first rest slot i h = elim (cases_Bool (length names == slot)) [
  | inl e ↦ first i (same_Some n.binder (binders.Bound i) (rw e at h))
  | inr f ↦ rest slot i (rw f at h)
]

same_input : (i j : Input) → binders.Bound i ≡ binders.Bound j → i ≡ j
same_input i j e = cc

pub bound_is : (P : Input → Type 0) (i j : Input) → P i → binders.Bound i ≡ binders.Bound j → P j
bound_is P i j p e = subst P (same_input i j e) p

-- the names of a group at these positions
pub own_hold : (P : Input → Type 0) (bs : List Bound) (names : List Naming) (item at count : ℕ)
    → ((p : ℕ) → p < count → P (record { item = item; position = p })) → at + length bs ≤ count
    → NamesHold P names → NamesHold P (with_own names item at bs)
own_hold P [] names item at count own le h = h
own_hold P (b ∷ bs) names item at count own le h =
    own_hold P bs (naming_at item at b OfRelation ∷ names) item (suc at) count own
    (omega (arith, le))
    (names_more P (naming_at item at b OfRelation) names
    (λ i e.
    bound_is P (record { item = item; position = at }) i (own at (omega (arith, le))) e)
    h)

pub all_hold : (P : Input → Type 0) (ss : List Sense) (outer : List Naming) (bs : List Bound)
    (names : List Naming) (item at count : ℕ)
    → ((p : ℕ) → p < count → P (record { item = item; position = p })) → at + length bs ≤ count
    → NamesHold P names → NamesHold P (with_all ss outer names item at bs)
all_hold P ss outer [] names item at count own le h = h
all_hold P ss outer (b ∷ bs) names item at count own le h =
    all_hold P ss outer bs (naming_at item at b (kind_in ss outer b.body) ∷ names) item (suc at)
    count own (omega (arith, le))
    (names_more P (naming_at item at b (kind_in ss outer b.body)) names
    (λ i e.
    bound_is P (record { item = item; position = at }) i (own at (omega (arith, le))) e)
    h)

-- ---- the predefined names

abbrev AreOuter : List Naming → Type 0
AreOuter names = Each (λ n. (i : Input) → n.binder ≡ binders.Bound i → ⊥) names

outer_hold : (P : Input → Type 0) (names : List Naming) → AreOuter names → NamesHold P names
outer_hold P [] h slot i e = absurd (none-some (binders.Bound i) e)
outer_hold P (n ∷ ns) h slot i e =
    names_more P n ns (λ j f. absurd (h.0 j f)) (outer_hold P ns h.1) slot i e

each_predefined : (ps : List Predefined) → AreOuter (map naming_of ps)
each_predefined [] = tt
each_predefined (p ∷ ps) = ((λ i e. cc), each_predefined ps)

pub predefined_hold : (P : Input → Type 0) (ps : List Predefined)
    → NamesHold P (reverse (map naming_of ps))
predefined_hold P ps =
    outer_hold P (reverse (map naming_of ps)) (each_reverse
    (λ n. (i : Input) → n.binder ≡ binders.Bound i → ⊥) (map naming_of ps) (each_predefined ps))
