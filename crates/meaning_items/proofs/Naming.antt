-- What binds the names of an expression, and those that its item uses.
use Rattle.std.proofs.Common.{ℕ, zero, suc, ◌≡◌, ◌<◌, List, [], ◌∷◌, ◌++◌, length, map, reverse, Bool, true, false, nat_le, bytes_eq, Option, Some, None, Result, Ok, Err, refl, ap, sym, ◌∙◌, subst, arith}
use Rattle.std.specs.Prelude.{◌==◌, nat_eq, is_some, if◌then◌else◌, slice_get}
use Rattle.std.specs.List.{AllByRecursion}
use Rattle.std.proofs.lemmas.Bool.{eqb-true, eq-eqb}
use Rattle.std.proofs.lemmas.List.{reverse-append, map-append, length-map, length-reverse}
use Rattle.text_values.specs.ModelValue.{Term, Terms, Atom, AllEvents, EmptyRelation, EmptySet, Join, Mark, Not, On, Apply, NoTerm, OneMore}
use Rattle.binding_kinds.specs.declared.fault.ModelFault.{ModelFault}
use Rattle.binding_kinds.specs.declared.scope.Binder.{Binder}
use Rattle.binding_kinds.specs.declared.scope.Binder.TheVariants as binders
use Rattle.binding_kinds.specs.declared.scope.Found.{Found}
use Rattle.binding_kinds.specs.declared.scope.Input.{Input}
use Rattle.binding_kinds.specs.declared.scope.Used.{Used}
use Rattle.binding_kinds.specs.Value.{Naming}
use Rattle.binding_kinds.specs.Kinds.{found}
use Rattle.binding_kinds.specs.Applicable.{applied_of}
use Rattle.binding_kinds.specs.Meanings.{parameter_of}
use Rattle.binding_kinds.specs.Fits.{IsValue}
use Rattle.binding_kinds.specs.Functions.{formula_in}
use Rattle.binding_kinds.specs.Senses.{Sense, count_of}
use Rattle.binding_graph.specs.Inputs.{index_of, with_used, with_binder, with_name, inputs_of}
use Rattle.binding_graph.specs.Usages.{Usage, with_all_used, values_of, usage_at, usage_seen, with_meaning, with_values, with_values_among}
use Rattle.meaning.specs.Names.{Name}
use Rattle.meaning_items.specs.Formulas.{HasNames}
use Rattle.meaning_items.specs.Slots.{naming_in}
use Rattle.meaning_items.proofs.Slots.{formula_names}

-- ---- the naming in a slot

pub naming_below : (names : List Naming) (slot : ℕ) (n : Naming) → naming_in names slot ≡ Some n
    → slot < length names
naming_below [] slot n e = absurd (let f : None ≡ Some n = e in cc)
naming_below (m ∷ ms) slot n e =
    at_test (nat_eq slot (length ms)) (eqb-true slot (length ms)) (naming_below ms slot n) e
  where
    at_test : (t : Bool) → (t ≡ true → slot ≡ length ms)
        → (naming_in ms slot ≡ Some n → slot < length ms)
        → (if t then Some m else naming_in ms slot) ≡ Some n → slot < suc (length ms)
    at_test true same rest h = let e = same refl in omega (arith, e)
    at_test false same rest h = let lt = rest h in omega (arith, lt)

pub naming_more : (names : List Naming) (m : Naming) (slot : ℕ) (n : Naming)
    → naming_in names slot ≡ Some n → naming_in (m ∷ names) slot ≡ Some n
naming_more names m slot n e =
    at_test (nat_eq slot (length names)) (eqb-true slot (length names))
  where
    at_test : (t : Bool) → (t ≡ true → slot ≡ length names)
        → (if t then Some m else naming_in names slot) ≡ Some n
    at_test true same =
        let lt = naming_below names slot n e in let s = same refl in absurd (omega (arith, lt, s))
    at_test false same = e

-- what is found stands in its slot
pub record IsNamed (names : List Naming) (g : Found) : Type 0 where
  pub naming : Naming
  pub there : naming_in names g.slot ≡ Some naming
  pub kind : g.kind ≡ naming.kind
  pub binder : g.binder ≡ naming.binder
  pub value : IsValue g.binder

pub named_more : (names : List Naming) (m : Naming) (g : Found) → IsNamed names g
    → IsNamed (m ∷ names) g
named_more names m g h = record {
  naming = h.naming;
  there = naming_more names m g.slot h.naming h.there;
  kind = h.kind;
  binder = h.binder;
  value = h.value;
}

pub found_named : (names : List Naming) (x : Name) (g : Found) → found names x ≡ Some g
    → IsValue g.binder → IsNamed names g
found_named [] x g e is = absurd (let f : None ≡ Some g = e in cc)
found_named (n ∷ ns) x g e is =
    at_test (bytes_eq n.name x) (λ h. named_more ns n g (found_named ns x g h is)) e
  where
    at_test : (t : Bool) → (found ns x ≡ Some g → IsNamed (n ∷ ns) g)
        → (if t then Some (record { slot = length ns; kind = n.kind; binder = n.binder })
        else found ns x) ≡ Some g → IsNamed (n ∷ ns) g
    at_test true rest h =
        let f : Found = record { slot = length ns; kind = n.kind; binder = n.binder } in
        let same : f ≡ g = let q : Some f ≡ Some g = h in cc in
        subst (λ (k : Found). IsValue k.binder → IsNamed (n ∷ ns) k) same
        (λ value. record {
          naming = n;
          there = ap (λ (t : Bool). if t then Some n else naming_in ns (length ns))
              (eq-eqb (length ns) (length ns) refl);
          kind = refl;
          binder = refl;
          value = value;
        }) is
    at_test false rest h = rest h

-- the bodies of functions hold such names
abbrev pub AreNamedSenses : List Naming → List Sense → Type 0
AreNamedSenses names ss =
    (f : ℕ) (s : Sense) → slice_get ss f ≡ Some s → HasNames (IsNamed names) s.formula

pub formula_named : (ss : List Sense) (names : List Naming) (ps : List Name)
    → AreNamedSenses names ss → (t : Term) → HasNames (IsNamed names) (formula_in ss names ps t)
formula_named ss names ps all t =
    formula_names (IsNamed names) ss names ps (λ x g e is. found_named names x g e is)
    (λ count x s h. all h.function s h.there) t

-- ---- the names used

-- a name used is what its slot binds
abbrev pub IsUsedName : List Naming → Used → Type 0
IsUsedName names u =
    (n : Naming) × (naming_in names u.slot ≡ Some n) × (n.binder ≡ binders.Bound u.input)

abbrev pub AreUsedNames : List Naming → List Used → Type 0
AreUsedNames names us = AllByRecursion (IsUsedName names) us

pub used_names_more : (names : List Naming) (m : Naming) (us : List Used) → AreUsedNames names us
    → AreUsedNames (m ∷ names) us
used_names_more names m [] h = tt
used_names_more names m (u ∷ us) h =
    ((h.0.0, naming_more names m u.slot h.0.0 h.0.1, h.0.2), used_names_more names m us h.1)

noted : (names : List Naming) (us : List Used) (u : Used) → IsUsedName names u
    → AreUsedNames names us → AreUsedNames names (with_used us u)
noted names us u one all = at_test (is_some (index_of us u.slot))
  where
    at_test : (t : Bool) → AreUsedNames names (if t then us else u ∷ us)
    at_test true = all
    at_test false = (one, all)

noted_all : (names : List Naming) (vs us : List Used) → AreUsedNames names vs
    → AreUsedNames names us → AreUsedNames names (with_all_used vs us)
noted_all names vs [] all more = all
noted_all names vs (u ∷ us) all more =
    noted_all names (with_used vs u) us (noted names vs u more.0 all) more.1

noted_binder : (names : List Naming) (us : List Used) (slot : ℕ) (b : Binder) (n : Naming)
    → naming_in names slot ≡ Some n → b ≡ n.binder → AreUsedNames names us
    → AreUsedNames names (with_binder us slot b)
noted_binder names us slot (binders.Predefined p) n there is all = all
noted_binder names us slot (binders.Bound i) n there is all =
    noted names us (record { slot = slot; input = i }) (n, there, sym is) all
noted_binder names us slot (binders.Applicable f) n there is all = all

-- the naming in the slot of what is found
found_there : (names : List Naming) (x : Name) (g : Found) → found names x ≡ Some g
    → (n : Naming) × (naming_in names g.slot ≡ Some n) × (g.binder ≡ n.binder)
found_there [] x g e = absurd (let f : None ≡ Some g = e in cc)
found_there (n ∷ ns) x g e = at_test (bytes_eq n.name x) (found_there ns x g) e
  where
    at_test : (t : Bool)
        → (found ns x ≡ Some g
        → (m : Naming) × (naming_in ns g.slot ≡ Some m) × (g.binder ≡ m.binder))
        → (if t then Some (record { slot = length ns; kind = n.kind; binder = n.binder })
        else found ns x) ≡ Some g
        → (m : Naming) × (naming_in (n ∷ ns) g.slot ≡ Some m) × (g.binder ≡ m.binder)
    at_test true rest h =
        let f : Found = record { slot = length ns; kind = n.kind; binder = n.binder } in
        let same : f ≡ g = let q : Some f ≡ Some g = h in cc in
        subst (λ (k : Found). (m : Naming) × (naming_in (n ∷ ns) k.slot ≡ Some m) × (k.binder ≡ m.binder)) same
        (n, ap (λ (t : Bool). if t then Some n else naming_in ns (length ns)) (eq-eqb (length ns) (length ns) refl), refl)
    at_test false rest h =
        let m = rest h in (m.0, naming_more ns n g.slot m.0 m.1, m.2)

noted_found : (names : List Naming) (us : List Used) (from : ℕ) (x : Name) (o : Option Found)
    → found names x ≡ o → AreUsedNames names us → AreUsedNames names (with_name us from o)
noted_found names us from x None e all = all
noted_found names us from x (Some f) e all = at_test (nat_le from f.slot)
  where
    at_test : (t : Bool)
        → AreUsedNames names (if t then us else with_binder us f.slot f.binder)
    at_test true = all
    at_test false =
        let there = found_there names x f e in
        noted_binder names us f.slot f.binder there.0 there.1 there.2 all

noted_meaning : (names : List Naming) (us : List Used) (from : ℕ) (x : Name) (p : Option ℕ)
    → AreUsedNames names us → AreUsedNames names (with_meaning us from p (found names x))
noted_meaning names us from x (Some p) all = all
noted_meaning names us from x None all = noted_found names us from x (found names x) refl all

-- what functions use is so named
abbrev pub AreNamedUsages : List Naming → List Usage → Type 0
AreNamedUsages names us =
    (f : ℕ) (u : Usage) → slice_get us f ≡ Some u → AreUsedNames names u.values

module _ (us : List Usage) (names : List Naming) (ps : List Name) (from : ℕ)
    (closed : AreNamedUsages names us) where
  usage_names : (r : Result ℕ ModelFault) → AreUsedNames names (values_of (usage_at us r))
  usage_names (Ok f) = at_usage (slice_get us f) refl
    where
      at_usage : (o : Option Usage) → slice_get us f ≡ o → AreUsedNames names (values_of o)
      at_usage None e = tt
      at_usage (Some u) e = closed f u e
  usage_names (Err k) = tt

  mutual
    pub values_named : (t : Term) (vs : List Used) → AreUsedNames names vs
        → AreUsedNames names (with_values us names ps from t vs)
    values_named (Atom x) vs h = noted_meaning names vs from x (parameter_of (reverse ps) x) h
    values_named AllEvents vs h = h
    values_named EmptyRelation vs h = h
    values_named EmptySet vs h = h
    values_named (Join op a b) vs h =
        values_named b (with_values us names ps from a vs) (values_named a vs h)
    values_named (Mark op a) vs h = values_named a vs h
    values_named (Not a) vs h = values_named a vs h
    values_named (On a) vs h = values_named a vs h
    values_named (Apply x ts) vs h =
        among_named ts (with_all_used vs (values_of (usage_seen us names ps (count_of ts) x)))
        (noted_all names vs (values_of (usage_seen us names ps (count_of ts) x)) h
        (usage_names (applied_of (λ f. slice_get (map (λ (u : Usage). u.arity) us) f) (count_of ts)
        (parameter_of (reverse ps) x) (found names x))))

    among_named : (ts : Terms) (vs : List Used) → AreUsedNames names vs
        → AreUsedNames names (with_values_among us names ps from ts vs)
    among_named NoTerm vs h = h
    among_named (OneMore a ts) vs h =
        among_named ts (with_values us names ps from a vs) (values_named a vs h)

-- ---- inputs by their indexes

get_before : {X : Type 0} (xs ys : List X) (i : ℕ) (x : X) → slice_get xs i ≡ Some x
    → slice_get (xs ++ ys) i ≡ Some x
get_before [] ys i x e = absurd (let f : None ≡ Some x = e in cc)
get_before (y ∷ xs) ys zero x e = e
get_before (y ∷ xs) ys (suc i) x e = get_before xs ys i x e

get_last : {X : Type 0} (xs : List X) (x : X) (n : ℕ) → length xs ≡ n
    → slice_get (xs ++ x ∷ []) n ≡ Some x
get_last [] x zero e = refl
get_last [] x (suc n) e = absurd (omega (arith, e))
get_last (y ∷ xs) x zero e = absurd (omega (arith, e))
get_last (y ∷ xs) x (suc n) e = get_last xs x n (omega (arith, e))

one_input_more : (us : List Used) (u : Used) → inputs_of (u ∷ us) ≡ inputs_of us ++ u.input ∷ []
one_input_more us u =
    ap (λ (vs : List Used). map (λ v. v.input) vs) (reverse-append (u ∷ []) us)
    ∙ map-append (λ (v : Used). v.input) (reverse us) (u ∷ [])

-- the input of a name used is at its index
pub input_at : (names : List Naming) (us : List Used) → AreUsedNames names us → (slot index : ℕ)
    → index_of us slot ≡ Some index
    → (u : Used) × (u.slot ≡ slot) × IsUsedName names u
    × (slice_get (inputs_of us) index ≡ Some u.input)
input_at names [] all slot index e = absurd (let f : None ≡ Some index = e in cc)
input_at names (u ∷ us) all slot index e =
    at_test (u.slot == slot) (eqb-true u.slot slot) (input_at names us all.1 slot index) e
  where
    long : length (inputs_of us) ≡ length us
    long = length-map (reverse us) (λ (v : Used). v.input) ∙ length-reverse us

    at_test : (t : Bool) → (t ≡ true → u.slot ≡ slot)
        → (index_of us slot ≡ Some index → (v : Used) × (v.slot ≡ slot) × IsUsedName names v
        × (slice_get (inputs_of us) index ≡ Some v.input))
        → (if t then Some (length us) else index_of us slot) ≡ Some index
        → (v : Used) × (v.slot ≡ slot) × IsUsedName names v
        × (slice_get (inputs_of (u ∷ us)) index ≡ Some v.input)
    at_test true same before h =
        let is : length us ≡ index = let f : Some (length us) ≡ Some index = h in cc in (
          u,
          same refl,
          all.0,
          ap (λ (xs : List Input). slice_get xs index) (one_input_more us u)
              ∙ get_last (inputs_of us) u.input index (long ∙ is),
        )
    at_test false same before h =
        let rest = before h in (
          rest.0,
          rest.1,
          rest.2,
          ap (λ (xs : List Input). slice_get xs index) (one_input_more us u)
              ∙ get_before (inputs_of us) (u.input ∷ []) index rest.0.input rest.3,
        )
