-- What holds of all names and functions that an expression uses holds of each that it sees.
use Rattle.std.proofs.Common.{ℕ, ◌≡◌, List, [], ◌∷◌, map, reverse, Bool, true, false, Option, Some, None, Result, Ok, Err, refl, sym, ◌∙◌, subst, inl, inr, eqb-true}
use Rattle.std.specs.Prelude.{◌==◌, is_some, nat_le, slice_get, if◌then◌else◌}
use Rattle.std.specs.List.{AllByRecursion as Each}
use Rattle.std.proofs.lemmas.Bool.{cases_Bool, false≢true}
use Rattle.std.proofs.lemmas.Option.{none-some}
use Rattle.text_values.specs.ModelValue.{Term, Terms, Atom, AllEvents, EmptyRelation, EmptySet, Join, Mark, Not, On, Apply, NoTerm, OneMore}
use Rattle.binding_kinds.specs.declared.fault.ModelFault.{ModelFault}
use Rattle.binding_kinds.specs.declared.scope.Binder.{Binder}
use Rattle.binding_kinds.specs.declared.scope.Binder.TheVariants as binders
use Rattle.binding_kinds.specs.declared.scope.Found.{Found}
use Rattle.binding_kinds.specs.declared.scope.Input.{Input}
use Rattle.binding_kinds.specs.declared.scope.Used.{Used}
use Rattle.binding_kinds.specs.Value.{Naming}
use Rattle.binding_kinds.specs.Kinds.{found}
use Rattle.binding_kinds.specs.Meanings.{parameter_of}
use Rattle.binding_kinds.specs.Applicable.{applied_of}
use Rattle.binding_kinds.specs.Senses.{count_of}
use Rattle.binding_graph.specs.Inputs.{index_of, with_used, with_binder, with_found, with_name}
use Rattle.binding_graph.specs.Usages.{Usage, with_all_used, is_among, with_item, with_items, usage_at, usage_seen, values_of, functions_of, with_meaning, with_values, with_values_among, with_functions, with_functions_among}
use Rattle.binding_laws.specs.ItemLaws.{Scope}
use Rattle.binding_laws.proofs.Placed.{same_input, no_function, no_predefined_input}

-- ---- functions

module _ (Q : ℕ → Type 0) where
  among_each : (fs : List ℕ) (item : ℕ) → is_among fs item ≡ true → Each Q fs → Q item
  among_each [] item e h = absurd (false≢true e)
  among_each (f ∷ fs) item e h = elim (cases_Bool (f == item)) [
    | inl s ↦ subst Q (eqb-true f item s) h.0
    | inr d ↦ among_each fs item (rw d at e) h.1
  ]

  item_both : (fs : List ℕ) (item : ℕ) → Each Q (with_item fs item) → Each Q fs × Q item
  item_both fs item h = at_test (is_among fs item) refl h
    where
      at_test : (b : Bool) → is_among fs item ≡ b → Each Q (if b then fs else item ∷ fs)
          → Each Q fs × Q item
      at_test true e g = (g, among_each fs item e g)
      at_test false e g = (g.1, g.0)

  pub items_both : (is fs : List ℕ) → Each Q (with_items fs is) → Each Q fs × Each Q is
  items_both [] fs h = (h, tt)
  items_both (i ∷ is) fs h =
      let rest = items_both is (with_item fs i) h in
      let one = item_both fs i rest.0 in
      (one.0, (one.1, rest.1))

  item_each : (fs : List ℕ) (item : ℕ) → Each Q fs → Q item → Each Q (with_item fs item)
  item_each fs item h q = at_test (is_among fs item)
    where
      at_test : (b : Bool) → Each Q (if b then fs else item ∷ fs)
      at_test true = h
      at_test false = (q, h)

  pub items_each : (is fs : List ℕ) → Each Q fs → Each Q is → Each Q (with_items fs is)
  items_each [] fs h g = h
  items_each (i ∷ is) fs h g = items_each is (with_item fs i) (item_each fs i h g.0) g.1

  module _ (us : List Usage) (names : List Naming) (ps : List (List ℕ)) where
    mutual
      pub functions_old : (t : Term) (fs : List ℕ) → Each Q (with_functions us names ps t fs)
          → Each Q fs
      functions_old (Atom x) fs h = h
      functions_old AllEvents fs h = h
      functions_old EmptyRelation fs h = h
      functions_old EmptySet fs h = h
      functions_old (Join op a b) fs h =
          functions_old a fs (functions_old b (with_functions us names ps a fs) h)
      functions_old (Mark op a) fs h = functions_old a fs h
      functions_old (Not a) fs h = functions_old a fs h
      functions_old (On a) fs h = functions_old a fs h
      functions_old (Apply x ts) fs h =
          (items_both (functions_of (usage_seen us names ps (count_of ts) x)) fs
          (all_functions_old ts
          (with_items fs (functions_of (usage_seen us names ps (count_of ts) x))) h)).0

      pub all_functions_old : (ts : Terms) (fs : List ℕ)
          → Each Q (with_functions_among us names ps ts fs) → Each Q fs
      all_functions_old NoTerm fs h = h
      all_functions_old (OneMore a others) fs h =
          functions_old a fs (all_functions_old others (with_functions us names ps a fs) h)

-- ---- what holds of all that is used

abbrev pub Hold : (Input → Type 0) → List Used → Type 0
Hold P vs = Each (λ v. P v.input) vs

-- all inputs are of one sort, and all functions of another: those of names before the slot `from`
module _ (P : Input → Type 0) (Q : ℕ → Type 0) (us : List Usage) (names : List Naming)
    (ps : List (List ℕ)) (from : ℕ) where
  abbrev pub IsKeptBinder : Found → Binder → Type 0
  IsKeptBinder f b = (i : Input) → b ≡ binders.Bound i → nat_le from f.slot ≡ false → P i

  abbrev pub IsKeptName : Option ℕ → Option Found → Type 0
  IsKeptName (Some p) o = Unit {0}
  IsKeptName None None = Unit {0}
  IsKeptName None (Some f) = IsKeptBinder f f.binder

  abbrev pub IsKeptUsage : Option Usage → Type 0
  IsKeptUsage None = Unit {0}
  IsKeptUsage (Some u) = Hold P u.values × Q u.item × Each Q u.functions

  abbrev mutual
    pub AreKept : Term → Type 0
    AreKept (Atom x) = IsKeptName (parameter_of (reverse ps) x) (found names x)
    AreKept AllEvents = Unit {0}
    AreKept EmptyRelation = Unit {0}
    AreKept EmptySet = Unit {0}
    AreKept (Join op a b) = AreKept a × AreKept b
    AreKept (Mark op a) = AreKept a
    AreKept (Not a) = AreKept a
    AreKept (On a) = AreKept a
    AreKept (Apply x ts) = IsKeptUsage (usage_seen us names ps (count_of ts) x) × AllAreKept ts

    pub AllAreKept : Terms → Type 0
    AllAreKept NoTerm = Unit {0}
    AllAreKept (OneMore a others) = AreKept a × AllAreKept others

-- ---- names

noted_by : (P : List Used → Type 0) (vs : List Used) (u : Used) → P vs → P (u ∷ vs) → P (with_used vs u)
noted_by P vs u old new = at_test (is_some (index_of vs u.slot))
  where
    at_test : (b : Bool) → P (if b then vs else u ∷ vs)
    at_test true = old
    at_test false = new

-- names whose slots tell their inputs
module _ (R : Used → Type 0) (sole : (u v : Used) → R u → R v → u.slot ≡ v.slot → u.input ≡ v.input)
    (P : Input → Type 0) where
  noted_right : (vs : List Used) (u : Used) → Each R vs → R u → Each R (with_used vs u)
  noted_right vs u h r = noted_by (Each R) vs u h (r, h)

  there_already : (vs : List Used) (u : Used) → Each R vs → R u
      → is_some (index_of vs u.slot) ≡ true → Hold P vs → P u.input
  there_already [] u h r e g = absurd (false≢true e)
  there_already (v ∷ vs) u h r e g = elim (cases_Bool (v.slot == u.slot)) [
    | inl s ↦ subst P (sole v u h.0 r (eqb-true v.slot u.slot s)) g.0
    | inr f ↦ there_already vs u h.1 r (rw f at e) g.1
  ]

  noted_both : (vs : List Used) (u : Used) → Each R vs → R u → Hold P (with_used vs u)
      → Hold P vs × P u.input
  noted_both vs u h r g = at_test (is_some (index_of vs u.slot)) refl g
    where
      at_test : (b : Bool) → is_some (index_of vs u.slot) ≡ b → Hold P (if b then vs else u ∷ vs)
          → Hold P vs × P u.input
      at_test true e k = (k, there_already vs u h r e k)
      at_test false e k = (k.1, k.0)

  pub all_right : (us vs : List Used) → Each R vs → Each R us → Each R (with_all_used vs us)
  all_right [] vs h g = h
  all_right (u ∷ us) vs h g = all_right us (with_used vs u) (noted_right vs u h g.0) g.1

  all_both : (us vs : List Used) → Each R vs → Each R us → Hold P (with_all_used vs us)
      → Hold P vs × Hold P us
  all_both [] vs h g k = (k, tt)
  all_both (u ∷ us) vs h g k =
      let rest = all_both us (with_used vs u) (noted_right vs u h g.0) g.1 k in
      let one = noted_both vs u h g.0 rest.0 in
      (one.0, (one.1, rest.1))

  -- the names that an expression sees, of which those of the item itself have the slot `from` and
  -- those behind it
  module _ (s : Scope) (names : List Naming) (ps : List (List ℕ)) (from : ℕ)
      (seen : (x : List ℕ) (f : Found) (i : Input) → found names x ≡ Some f
      → nat_le from f.slot ≡ false → f.binder ≡ binders.Bound i
      → R (record { slot = f.slot; input = i }))
      (usages : (at : ℕ) (u : Usage) → slice_get s.usages at ≡ Some u → Each R u.values) where
    abbrev noted_in : Term → List Used → List Used
    noted_in t vs = with_values s.usages names ps from t vs

    abbrev seen_as : ℕ → List ℕ → Option Usage
    seen_as n x = usage_seen s.usages names ps n x

    pub usage_there : (n : ℕ) (x : List ℕ) (u : Usage) → seen_as n x ≡ Some u
        → (at : ℕ) × (slice_get s.usages at ≡ Some u)
    usage_there n x u e =
        by_result
        (applied_of (λ f. slice_get (map (λ u. u.arity) s.usages) f) n (parameter_of (reverse ps) x)
        (found names x)) e
      where
        by_result : (r : Result ℕ ModelFault) → usage_at s.usages r ≡ Some u
            → (at : ℕ) × (slice_get s.usages at ≡ Some u)
        by_result (Ok f) e = (f, e)
        by_result (Err k) e = absurd (none-some u e)

    values_right : (o : Option Usage)
        → ((u : Usage) → o ≡ Some u → (at : ℕ) × (slice_get s.usages at ≡ Some u))
        → Each R (values_of o)
    values_right None h = tt
    values_right (Some u) h = let there = h u refl in usages there.0 u there.1

    binder_right : (x : List ℕ) (f : Found) (b : Binder) (vs : List Used) → found names x ≡ Some f
        → nat_le from f.slot ≡ false → f.binder ≡ b → Each R vs → Each R (with_binder vs f.slot b)
    binder_right x f (binders.Predefined p) vs e t is h = h
    binder_right x f (binders.Bound i) vs e t is h =
        noted_right vs (record { slot = f.slot; input = i }) h (seen x f i e t is)
    binder_right x f (binders.Applicable g) vs e t is h = h

    found_right : (x : List ℕ) (f : Found) (vs : List Used) → found names x ≡ Some f → Each R vs
        → Each R (with_found vs from f)
    found_right x f vs e h = at_test (nat_le from f.slot) refl
      where
        at_test : (b : Bool) → nat_le from f.slot ≡ b
            → Each R (if b then vs else with_binder vs f.slot f.binder)
        at_test true t = h
        at_test false t = binder_right x f f.binder vs e t refl h

    name_right : (x : List ℕ) (o : Option Found) (vs : List Used) → found names x ≡ o → Each R vs
        → Each R (with_name vs from o)
    name_right x None vs e h = h
    name_right x (Some f) vs e h = found_right x f vs e h

    meaning_right : (p : Option ℕ) (x : List ℕ) (vs : List Used) → Each R vs
        → Each R (with_meaning vs from p (found names x))
    meaning_right (Some i) x vs h = h
    meaning_right None x vs h = name_right x (found names x) vs refl h

    applied_right : (n : ℕ) (x : List ℕ) (vs : List Used) → Each R vs
        → Each R (with_all_used vs (values_of (seen_as n x)))
    applied_right n x vs h =
        all_right (values_of (seen_as n x)) vs h (values_right (seen_as n x) (usage_there n x))

    mutual
      pub term_right : (t : Term) (vs : List Used) → Each R vs → Each R (noted_in t vs)
      term_right (Atom x) vs h = meaning_right (parameter_of (reverse ps) x) x vs h
      term_right AllEvents vs h = h
      term_right EmptyRelation vs h = h
      term_right EmptySet vs h = h
      term_right (Join op a b) vs h = term_right b (noted_in a vs) (term_right a vs h)
      term_right (Mark op a) vs h = term_right a vs h
      term_right (Not a) vs h = term_right a vs h
      term_right (On a) vs h = term_right a vs h
      term_right (Apply x ts) vs h =
          terms_right ts (with_all_used vs (values_of (seen_as (count_of ts) x)))
          (applied_right (count_of ts) x vs h)

      pub terms_right : (ts : Terms) (vs : List Used) → Each R vs
          → Each R (with_values_among s.usages names ps from ts vs)
      terms_right NoTerm vs h = h
      terms_right (OneMore a others) vs h = terms_right others (noted_in a vs) (term_right a vs h)

    -- ---- what holds of all that is used

    bound_both : (f : Found) (b : Binder) (x : List ℕ) (vs : List Used) → found names x ≡ Some f
        → nat_le from f.slot ≡ false → f.binder ≡ b → Each R vs → Hold P (with_binder vs f.slot b)
        → Hold P vs × ((i : Input) → b ≡ binders.Bound i → P i)
    bound_both f (binders.Predefined p) x vs e t is h g =
        (g, λ i q. absurd (no_predefined_input p i q))
    bound_both f (binders.Bound j) x vs e t is h g =
        let both = noted_both vs (record { slot = f.slot; input = j }) h (seen x f j e t is) g in
        (both.0, λ i q. subst P (same_input j i q) both.1)
    bound_both f (binders.Applicable k) x vs e t is h g = (g, λ i q. absurd (no_function k i q))

    found_both : (Q : ℕ → Type 0) (f : Found) (x : List ℕ) (vs : List Used) → found names x ≡ Some f
        → Each R vs → Hold P (with_found vs from f)
        → Hold P vs × IsKeptBinder P Q s.usages names ps from f f.binder
    found_both Q f x vs e h g = at_test (nat_le from f.slot) refl g
      where
        at_test : (b : Bool) → nat_le from f.slot ≡ b
            → Hold P (if b then vs else with_binder vs f.slot f.binder)
            → Hold P vs × IsKeptBinder P Q s.usages names ps from f f.binder
        at_test true t k = (k, λ i q low. absurd (false≢true (sym low ∙ t)))
        at_test false t k =
            let both = bound_both f f.binder x vs e t refl h k in (both.0, λ i q low. both.1 i q)

    name_both : (Q : ℕ → Type 0) (p : Option ℕ) (o : Option Found) (x : List ℕ) (vs : List Used)
        → found names x ≡ o → Each R vs → Hold P (with_meaning vs from p o)
        → Hold P vs × IsKeptName P Q s.usages names ps from p o
    name_both Q (Some p) o x vs e h g = (g, tt)
    name_both Q None None x vs e h g = (g, tt)
    name_both Q None (Some f) x vs e h g = found_both Q f x vs e h g

    usage_both : (Q : ℕ → Type 0) (o : Option Usage) → Hold P (values_of o)
        → Each Q (functions_of o) → IsKeptUsage P Q s.usages names ps from o
    usage_both Q None h g = tt
    usage_both Q (Some u) h g = (h, g.0, g.1)

    module _ (Q : ℕ → Type 0) where
      mutual
        pub term_kept : (t : Term) (vs : List Used) (fs : List ℕ) → Each R vs
            → Hold P (noted_in t vs) → Each Q (with_functions s.usages names ps t fs)
            → Hold P vs × AreKept P Q s.usages names ps from t
        term_kept (Atom x) vs fs h g q =
            name_both Q (parameter_of (reverse ps) x) (found names x) x vs refl h g
        term_kept AllEvents vs fs h g q = (g, tt)
        term_kept EmptyRelation vs fs h g q = (g, tt)
        term_kept EmptySet vs fs h g q = (g, tt)
        term_kept (Join op a b) vs fs h g q =
            let right = term_kept b (noted_in a vs) (with_functions s.usages names ps a fs) (term_right a vs h) g q in
            let left = term_kept a vs fs h right.0 (functions_old Q s.usages names ps b (with_functions s.usages names ps a fs) q) in
            (left.0, (left.1, right.1))
        term_kept (Mark op a) vs fs h g q = term_kept a vs fs h g q
        term_kept (Not a) vs fs h g q = term_kept a vs fs h g q
        term_kept (On a) vs fs h g q = term_kept a vs fs h g q
        term_kept (Apply x ts) vs fs h g q =
            let o : Option Usage = seen_as (count_of ts) x in
            let rest = terms_kept ts (with_all_used vs (values_of o)) (with_items fs (functions_of o)) (applied_right (count_of ts) x vs h) g q in
            let one = all_both (values_of o) vs h (values_right o (usage_there (count_of ts) x)) rest.0 in
            let functions = items_both Q (functions_of o) fs (all_functions_old Q s.usages names ps ts (with_items fs (functions_of o)) q) in
            (one.0, (usage_both Q o one.1 functions.1, rest.1))

        pub terms_kept : (ts : Terms) (vs : List Used) (fs : List ℕ) → Each R vs
            → Hold P (with_values_among s.usages names ps from ts vs)
            → Each Q (with_functions_among s.usages names ps ts fs)
            → Hold P vs × AllAreKept P Q s.usages names ps from ts
        terms_kept NoTerm vs fs h g q = (g, tt)
        terms_kept (OneMore a others) vs fs h g q =
            let rest = terms_kept others (noted_in a vs) (with_functions s.usages names ps a fs) (term_right a vs h) g q in
            let first = term_kept a vs fs h rest.0 (all_functions_old Q s.usages names ps others (with_functions s.usages names ps a fs) q) in
            (first.0, (first.1, rest.1))

      -- ---- functions that are applied

      module _ (G : ℕ → Type 0)
          (good : (at : ℕ) (u : Usage) → slice_get s.usages at ≡ Some u → Hold P u.values
          → Each Q u.functions → G u.item × Each G u.functions) where
        usage_good : (o : Option Usage)
            → ((u : Usage) → o ≡ Some u → (at : ℕ) × (slice_get s.usages at ≡ Some u))
            → IsKeptUsage P Q s.usages names ps from o → Each G (functions_of o)
        usage_good None h k = tt
        usage_good (Some u) h k = let there = h u refl in good there.0 u there.1 k.0 k.2

        mutual
          pub term_good : (t : Term) (fs : List ℕ) → AreKept P Q s.usages names ps from t
              → Each G fs → Each G (with_functions s.usages names ps t fs)
          term_good (Atom x) fs k h = h
          term_good AllEvents fs k h = h
          term_good EmptyRelation fs k h = h
          term_good EmptySet fs k h = h
          term_good (Join op a b) fs k h =
              term_good b (with_functions s.usages names ps a fs) k.1 (term_good a fs k.0 h)
          term_good (Mark op a) fs k h = term_good a fs k h
          term_good (Not a) fs k h = term_good a fs k h
          term_good (On a) fs k h = term_good a fs k h
          term_good (Apply x ts) fs k h =
              let o : Option Usage = seen_as (count_of ts) x in
              terms_good ts (with_items fs (functions_of o)) k.1 (items_each G (functions_of o) fs h
              (usage_good o (usage_there (count_of ts) x) k.0))

          pub terms_good : (ts : Terms) (fs : List ℕ) → AllAreKept P Q s.usages names ps from ts
              → Each G fs → Each G (with_functions_among s.usages names ps ts fs)
          terms_good NoTerm fs k h = h
          terms_good (OneMore a others) fs k h =
              terms_good others (with_functions s.usages names ps a fs) k.1 (term_good a fs k.0 h)
