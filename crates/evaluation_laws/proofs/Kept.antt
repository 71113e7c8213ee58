-- The names that an item sees and uses are of items that are used.
use Rattle.std.proofs.Common.{ℕ, ◌≡◌, zero, suc, List, [], ◌∷◌, map, reverse, Bool, true, false, Option, Some, None, Result, Ok, Err, refl, sym, ap, ◌∙◌, subst, inl, inr, eqb-true}
use Rattle.std.specs.Prelude.{◌==◌, is_some, nat_le, slice_get, if◌then◌else◌}
use Rattle.std.specs.List.{AllByRecursion as Each}
use Rattle.std.proofs.lemmas.Bool.{cases_Bool}
use Rattle.std.proofs.lemmas.Option.{none-some, same_Some}
use Rattle.text_values.specs.ModelValue.{Term, Terms, Atom, AllEvents, EmptyRelation, EmptySet, Join, Mark, Not, On, Apply, NoTerm, OneMore}
use Rattle.memo_core.specs.Step.{Has}
use Rattle.binding_kinds.specs.declared.fault.ModelFault.{ModelFault}
use Rattle.binding_kinds.specs.declared.scope.Binder.{Binder}
use Rattle.binding_kinds.specs.declared.scope.Binder.TheVariants as binders
use Rattle.binding_kinds.specs.declared.scope.Found.{Found}
use Rattle.binding_kinds.specs.declared.scope.Input.{Input}
use Rattle.binding_kinds.specs.declared.scope.Used.{Used}
use Rattle.binding_kinds.specs.Value.{Naming}
use Rattle.binding_kinds.specs.Kinds.{found}
use Rattle.binding_kinds.specs.Fits.{IsValue}
use Rattle.binding_kinds.specs.Meanings.{parameter_of}
use Rattle.binding_kinds.specs.Applicable.{applied_of}
use Rattle.binding_kinds.specs.Senses.{count_of}
use Rattle.binding_graph.specs.Inputs.{index_of, with_used, with_binder, with_found, with_name}
use Rattle.binding_graph.specs.Usages.{Usage, with_all_used, is_among, with_item, with_items, usage_at, usage_seen, values_of, functions_of, with_meaning, with_values, with_values_among, with_functions, with_functions_among}
use Rattle.binding_laws.specs.ItemLaws.{Scope}
use Rattle.bench_slots.proofs.Naming.{binder_at}
use Rattle.bench_slots.proofs.Using.{IsBoundBy, items_in}
use Rattle.binding_laws.proofs.Named.{IsNamed, IsApplied, HasNames, HaveNames, seen_usage}

-- ---- what an expression may see

-- the items that are used, and the items of all functions, in the order of the text
pub record Reach : Type 0 where
  pub items : List ℕ
  pub functions : List ℕ

-- the name is predefined, or of an item that is used
abbrev pub IsKept : Reach → Binder → Type 0
IsKept u (binders.Predefined p) = Unit {0}
IsKept u (binders.Bound i) = Has u.items i.item
IsKept u (binders.Applicable g) = (k : ℕ) × (slice_get u.functions g ≡ Some k) × Has u.items k

pub record IsNameKept (u : Reach) (names : List Naming) (x : List ℕ) : Type 0 where
  pub now : Found
  pub there : found names x ≡ Some now
  pub value : IsValue now.binder
  pub kept : IsKept u now.binder

pub record IsFunctionKept (u : Reach) (s : Scope) (count : ℕ) (x : List ℕ) : Type 0 where
  pub applied : IsApplied s count x
  pub kept : IsKept u (binders.Applicable applied.at)

abbrev mutual
  -- each name of an expression that sees these parameters stands for something of its sort that is
  -- used
  pub HasKeptNames : Reach → Scope → List (List ℕ) → Term → Type 0
  HasKeptNames u s ps (Atom x) = parameter_of (reverse ps) x ≡ None → IsNameKept u s.names x
  HasKeptNames u s ps AllEvents = Unit {0}
  HasKeptNames u s ps EmptyRelation = Unit {0}
  HasKeptNames u s ps EmptySet = Unit {0}
  HasKeptNames u s ps (Join op a b) = HasKeptNames u s ps a × HasKeptNames u s ps b
  HasKeptNames u s ps (Mark op a) = HasKeptNames u s ps a
  HasKeptNames u s ps (Not a) = HasKeptNames u s ps a
  HasKeptNames u s ps (On a) = HasKeptNames u s ps a
  HasKeptNames u s ps (Apply x ts) =
      (parameter_of (reverse ps) x ≡ None) × IsFunctionKept u s (count_of ts) x
      × HaveKeptNames u s ps ts

  pub HaveKeptNames : Reach → Scope → List (List ℕ) → Terms → Type 0
  HaveKeptNames u s ps NoTerm = Unit {0}
  HaveKeptNames u s ps (OneMore a others) = HasKeptNames u s ps a × HaveKeptNames u s ps others

-- ---- what is noted stays

abbrev pub Grows : List ℕ → List ℕ → Type 0
Grows ks ls = (k : ℕ) → Has ks k → Has ls k

noted_by : (P : List Used → Type 0) (vs : List Used) (u : Used) → P vs → P (u ∷ vs) → P (with_used vs u)
noted_by P vs u old new = at_test (is_some (index_of vs u.slot))
  where
    at_test : (b : Bool) → P (if b then vs else u ∷ vs)
    at_test true = old
    at_test false = new

noted_grows : (vs : List Used) (u : Used) → Grows (items_in vs) (items_in (with_used vs u))
noted_grows vs u k h = noted_by (λ ws. Has (items_in ws) k) vs u h (inr h)

all_grow : (ws vs : List Used) → Grows (items_in vs) (items_in (with_all_used vs ws))
all_grow [] vs k h = h
all_grow (w ∷ ws) vs k h = all_grow ws (with_used vs w) k (noted_grows vs w k h)

binder_grows : (vs : List Used) (slot : ℕ) (b : Binder)
    → Grows (items_in vs) (items_in (with_binder vs slot b))
binder_grows vs slot (binders.Predefined p) k h = h
binder_grows vs slot (binders.Bound i) k h = noted_grows vs (record { slot = slot; input = i }) k h
binder_grows vs slot (binders.Applicable f) k h = h

found_grows : (vs : List Used) (from : ℕ) (f : Found)
    → Grows (items_in vs) (items_in (with_found vs from f))
found_grows vs from f k h = at_test (nat_le from f.slot)
  where
    at_test : (b : Bool) → Has (items_in (if b then vs else with_binder vs f.slot f.binder)) k
    at_test true = h
    at_test false = binder_grows vs f.slot f.binder k h

meaning_grows : (vs : List Used) (from : ℕ) (p : Option ℕ) (o : Option Found)
    → Grows (items_in vs) (items_in (with_meaning vs from p o))
meaning_grows vs from (Some p) o k h = h
meaning_grows vs from None None k h = h
meaning_grows vs from None (Some f) k h = found_grows vs from f k h

item_grows : (fs : List ℕ) (item : ℕ) → Grows fs (with_item fs item)
item_grows fs item k h = at_test (is_among fs item)
  where
    at_test : (b : Bool) → Has (if b then fs else item ∷ fs) k
    at_test true = h
    at_test false = inr h

items_grow : (is fs : List ℕ) → Grows fs (with_items fs is)
items_grow [] fs k h = h
items_grow (i ∷ is) fs k h = items_grow is (with_item fs i) k (item_grows fs i k h)

among_has : (fs : List ℕ) (item : ℕ) → is_among fs item ≡ true → Has fs item
among_has [] item e = cc
among_has (f ∷ fs) item e = elim (cases_Bool (f == item)) [
  | inl s ↦ inl (eqb-true f item s)
  | inr d ↦ inr (among_has fs item (rw d at e))
]

item_there : (fs : List ℕ) (item : ℕ) → Has (with_item fs item) item
item_there fs item = at_test (is_among fs item) refl
  where
    at_test : (b : Bool) → is_among fs item ≡ b → Has (if b then fs else item ∷ fs) item
    at_test true e = among_has fs item e
    at_test false e = inl refl

module _ (us : List Usage) (names : List Naming) (ps : List (List ℕ)) where
  module _ (from : ℕ) where
    mutual
      pub values_grow : (t : Term) (vs : List Used)
          → Grows (items_in vs) (items_in (with_values us names ps from t vs))
      values_grow (Atom x) vs k h =
          meaning_grows vs from (parameter_of (reverse ps) x) (found names x) k h
      values_grow AllEvents vs k h = h
      values_grow EmptyRelation vs k h = h
      values_grow EmptySet vs k h = h
      values_grow (Join op a b) vs k h =
          values_grow b (with_values us names ps from a vs) k (values_grow a vs k h)
      values_grow (Mark op a) vs k h = values_grow a vs k h
      values_grow (Not a) vs k h = values_grow a vs k h
      values_grow (On a) vs k h = values_grow a vs k h
      values_grow (Apply x ts) vs k h =
          all_values_grow ts (with_all_used vs (values_of (usage_seen us names ps (count_of ts) x))) k
          (all_grow (values_of (usage_seen us names ps (count_of ts) x)) vs k h)

      all_values_grow : (ts : Terms) (vs : List Used)
          → Grows (items_in vs) (items_in (with_values_among us names ps from ts vs))
      all_values_grow NoTerm vs k h = h
      all_values_grow (OneMore a others) vs k h =
          all_values_grow others (with_values us names ps from a vs) k (values_grow a vs k h)

  mutual
    pub functions_grow : (t : Term) (fs : List ℕ) → Grows fs (with_functions us names ps t fs)
    functions_grow (Atom x) fs k h = h
    functions_grow AllEvents fs k h = h
    functions_grow EmptyRelation fs k h = h
    functions_grow EmptySet fs k h = h
    functions_grow (Join op a b) fs k h =
        functions_grow b (with_functions us names ps a fs) k (functions_grow a fs k h)
    functions_grow (Mark op a) fs k h = functions_grow a fs k h
    functions_grow (Not a) fs k h = functions_grow a fs k h
    functions_grow (On a) fs k h = functions_grow a fs k h
    functions_grow (Apply x ts) fs k h =
        all_functions_grow ts
        (with_items fs (functions_of (usage_seen us names ps (count_of ts) x))) k
        (items_grow (functions_of (usage_seen us names ps (count_of ts) x)) fs k h)

    all_functions_grow : (ts : Terms) (fs : List ℕ)
        → Grows fs (with_functions_among us names ps ts fs)
    all_functions_grow NoTerm fs k h = h
    all_functions_grow (OneMore a others) fs k h =
        all_functions_grow others (with_functions us names ps a fs) k (functions_grow a fs k h)

-- ---- what is used is kept

same_bound : (i j : Input) → Some (binders.Bound i) ≡ Some (binders.Bound j) → i.item ≡ j.item
same_bound i j e = ap (λ (k : Input). k.item) (bound (some e))
  where
    some : {a b : Binder} → Some a ≡ Some b → a ≡ b
    some e = cc

    bound : binders.Bound i ≡ binders.Bound j → i ≡ j
    bound e = cc

module _ (names : List Naming) where
  there_already : (vs : List Used) (u : Used) → Each (IsBoundBy names) vs → IsBoundBy names u
      → is_some (index_of vs u.slot) ≡ true → Has (items_in vs) u.input.item
  there_already [] u h b e = cc
  there_already (v ∷ vs) u h b e = elim (cases_Bool (v.slot == u.slot)) [
    | inl s ↦ inl (same_bound v.input u.input (sym h.0
        ∙ ap (binder_at names) (eqb-true v.slot u.slot s) ∙ b))
    | inr f ↦ inr (there_already vs u h.1 b (rw f at e))
  ]

  noted_has : (vs : List Used) (u : Used) → Each (IsBoundBy names) vs → IsBoundBy names u
      → Has (items_in (with_used vs u)) u.input.item
  noted_has vs u h b = at_test (is_some (index_of vs u.slot)) refl
    where
      at_test : (t : Bool) → is_some (index_of vs u.slot) ≡ t
          → Has (items_in (if t then vs else u ∷ vs)) u.input.item
      at_test true e = there_already vs u h b e
      at_test false e = inl refl

  noted_bound : (vs : List Used) (u : Used) → Each (IsBoundBy names) vs → IsBoundBy names u
      → Each (IsBoundBy names) (with_used vs u)
  noted_bound vs u h b = noted_by (Each (IsBoundBy names)) vs u h (b, h)

  all_bound : (ws vs : List Used) → Each (IsBoundBy names) vs → Each (IsBoundBy names) ws
      → Each (IsBoundBy names) (with_all_used vs ws)
  all_bound [] vs h g = h
  all_bound (w ∷ ws) vs h g = all_bound ws (with_used vs w) (noted_bound vs w h g.0) g.1

  -- the names that an expression sees, of which those of the item itself have the slot `from` and
  -- those behind it
  module _ (u : Reach) (s : Scope) (ps : List (List ℕ)) (from : ℕ)
      (seen : (x : List ℕ) (f : Found) → found s.names x ≡ Some f → nat_le from f.slot ≡ false
      → binder_at names f.slot ≡ Some f.binder)
      (own : (x : List ℕ) (f : Found) → found s.names x ≡ Some f → nat_le from f.slot ≡ true
      → IsKept u f.binder)
      (values : (w : Usage) → Has s.usages w → Each (IsBoundBy names) w.values)
      (functions : (k : ℕ) (w : Usage) → slice_get s.usages k ≡ Some w
      → slice_get u.functions k ≡ Some w.item) where
    abbrev noted_in : Term → List Used → List Used
    noted_in t vs = with_values s.usages s.names ps from t vs

    abbrev applied_in : Term → List ℕ → List ℕ
    applied_in t fs = with_functions s.usages s.names ps t fs

    has_at : (xs : List Usage) (i : ℕ) (w : Usage) → slice_get xs i ≡ Some w → Has xs w
    has_at [] i w e = absurd (none-some w e)
    has_at (x ∷ xs) zero w e = inl (same_Some _ _ e)
    has_at (x ∷ xs) (suc i) w e = inr (has_at xs i w e)

    usage_there : (r : Result ℕ ModelFault) (w : Usage) → usage_at s.usages r ≡ Some w
        → Has s.usages w
    usage_there (Ok f) w e = has_at s.usages f w e
    usage_there (Err k) w e = absurd (none-some w e)

    values_bound : (o : Option Usage) → ((w : Usage) → o ≡ Some w → Has s.usages w)
        → Each (IsBoundBy names) (values_of o)
    values_bound None h = tt
    values_bound (Some w) h = values w (h w refl)

    seen_there : (n : ℕ) (x : List ℕ) (w : Usage) → usage_seen s.usages s.names ps n x ≡ Some w
        → Has s.usages w
    seen_there n x w e =
        usage_there
        (applied_of (λ f. slice_get (map (λ u. u.arity) s.usages) f) n (parameter_of (reverse ps) x)
        (found s.names x)) w e

    binder_bound : (slot : ℕ) (b : Binder) (vs : List Used) → binder_at names slot ≡ Some b
        → Each (IsBoundBy names) vs → Each (IsBoundBy names) (with_binder vs slot b)
    binder_bound slot (binders.Predefined p) vs e h = h
    binder_bound slot (binders.Bound i) vs e h =
        noted_bound vs (record { slot = slot; input = i }) h e
    binder_bound slot (binders.Applicable f) vs e h = h

    found_bound : (x : List ℕ) (f : Found) (vs : List Used) → found s.names x ≡ Some f
        → Each (IsBoundBy names) vs → Each (IsBoundBy names) (with_found vs from f)
    found_bound x f vs e h = at_test (nat_le from f.slot) refl
      where
        at_test : (b : Bool) → nat_le from f.slot ≡ b
            → Each (IsBoundBy names) (if b then vs else with_binder vs f.slot f.binder)
        at_test true t = h
        at_test false t = binder_bound f.slot f.binder vs (seen x f e t) h

    name_bound : (x : List ℕ) (o : Option Found) (vs : List Used) → found s.names x ≡ o
        → Each (IsBoundBy names) vs → Each (IsBoundBy names) (with_name vs from o)
    name_bound x None vs e h = h
    name_bound x (Some f) vs e h = found_bound x f vs e h

    meaning_bound : (p : Option ℕ) (x : List ℕ) (vs : List Used) → Each (IsBoundBy names) vs
        → Each (IsBoundBy names) (with_meaning vs from p (found s.names x))
    meaning_bound (Some i) x vs h = h
    meaning_bound None x vs h = name_bound x (found s.names x) vs refl h

    mutual
      pub term_bound : (t : Term) (vs : List Used) → Each (IsBoundBy names) vs
          → Each (IsBoundBy names) (noted_in t vs)
      term_bound (Atom x) vs h = meaning_bound (parameter_of (reverse ps) x) x vs h
      term_bound AllEvents vs h = h
      term_bound EmptyRelation vs h = h
      term_bound EmptySet vs h = h
      term_bound (Join op a b) vs h = term_bound b (noted_in a vs) (term_bound a vs h)
      term_bound (Mark op a) vs h = term_bound a vs h
      term_bound (Not a) vs h = term_bound a vs h
      term_bound (On a) vs h = term_bound a vs h
      term_bound (Apply x ts) vs h =
          terms_bound ts (with_all_used vs (values_of (usage_seen s.usages s.names ps (count_of ts) x)))
          (all_bound (values_of (usage_seen s.usages s.names ps (count_of ts) x)) vs h
          (values_bound (usage_seen s.usages s.names ps (count_of ts) x)
          (seen_there (count_of ts) x)))

      pub terms_bound : (ts : Terms) (vs : List Used) → Each (IsBoundBy names) vs
          → Each (IsBoundBy names) (with_values_among s.usages s.names ps from ts vs)
      terms_bound NoTerm vs h = h
      terms_bound (OneMore a others) vs h = terms_bound others (noted_in a vs) (term_bound a vs h)

    binder_kept : (slot : ℕ) (b : Binder) (vs : List Used) → IsValue b
        → binder_at names slot ≡ Some b → Each (IsBoundBy names) vs
        → Grows (items_in (with_binder vs slot b)) u.items → IsKept u b
    binder_kept slot (binders.Predefined p) vs v e h all = tt
    binder_kept slot (binders.Bound i) vs v e h all =
        all i.item (noted_has vs (record { slot = slot; input = i }) h e)
    binder_kept slot (binders.Applicable f) vs v e h all = absurd v

    found_kept : (x : List ℕ) (f : Found) (vs : List Used) → IsValue f.binder
        → found s.names x ≡ Some f → Each (IsBoundBy names) vs
        → Grows (items_in (with_found vs from f)) u.items → IsKept u f.binder
    found_kept x f vs v e h all = at_test (nat_le from f.slot) refl all
      where
        at_test : (b : Bool) → nat_le from f.slot ≡ b
            → Grows (items_in (if b then vs else with_binder vs f.slot f.binder)) u.items
            → IsKept u f.binder
        at_test true t g = own x f e t
        at_test false t g = binder_kept f.slot f.binder vs v (seen x f e t) h g

    atom_kept : (x : List ℕ) (vs : List Used) → parameter_of (reverse ps) x ≡ None
        → IsNamed s.names x → Each (IsBoundBy names) vs
        → Grows (items_in (with_meaning vs from (parameter_of (reverse ps) x) (found s.names x)))
        u.items → IsNameKept u s.names x
    atom_kept x vs none n h all =
        let there = n.there in
        let given : Grows (items_in (with_found vs from n.now)) u.items = rw there at (rw none at all) in
        record { now = n.now; there = n.there; value = n.value; kept = found_kept x n.now vs n.value n.there h given }

    function_kept : (n : ℕ) (x : List ℕ) (fs : List ℕ) → parameter_of (reverse ps) x ≡ None
        → (h : IsApplied s n x)
        → Grows (with_items fs (functions_of (usage_seen s.usages s.names ps n x))) u.items
        → IsFunctionKept u s n x
    function_kept n x fs none h all =
        let given : Grows (with_items fs (functions_of (Some h.usage))) u.items = subst (λ (o : Option Usage). Grows (with_items fs (functions_of o)) u.items) (seen_usage s n ps x none h) all in
        let there : Has (with_items fs (functions_of (Some h.usage))) h.usage.item = items_grow h.usage.functions (with_item fs h.usage.item) h.usage.item (item_there fs h.usage.item) in
        record { applied = h; kept = (h.usage.item, functions h.at h.usage h.has_usage, given h.usage.item there) }

    mutual
      pub term_kept : (t : Term) (vs : List Used) (fs : List ℕ) → HasNames s ps t
          → Each (IsBoundBy names) vs → Grows (items_in (noted_in t vs)) u.items
          → Grows (applied_in t fs) u.items → HasKeptNames u s ps t
      term_kept (Atom x) vs fs n h all apps = λ none. atom_kept x vs none (n none) h all
      term_kept AllEvents vs fs n h all apps = tt
      term_kept EmptyRelation vs fs n h all apps = tt
      term_kept EmptySet vs fs n h all apps = tt
      term_kept (Join op a b) vs fs n h all apps = (
        term_kept a vs fs n.0 h
            (λ k g. all k (values_grow s.usages s.names ps from b (noted_in a vs) k g))
            (λ k g. apps k (functions_grow s.usages s.names ps b (applied_in a fs) k g)),
        term_kept b (noted_in a vs) (applied_in a fs) n.1 (term_bound a vs h) all apps,
      )
      term_kept (Mark op a) vs fs n h all apps = term_kept a vs fs n h all apps
      term_kept (Not a) vs fs n h all apps = term_kept a vs fs n h all apps
      term_kept (On a) vs fs n h all apps = term_kept a vs fs n h all apps
      term_kept (Apply x ts) vs fs n h all apps =
          let o : Option Usage = usage_seen s.usages s.names ps (count_of ts) x in (
            n.0,
            function_kept (count_of ts) x fs n.0 n.1 (λ k g. apps k (all_functions_grow s.usages
                s.names ps ts (with_items fs (functions_of o)) k g)),
            terms_kept ts (with_all_used vs (values_of o)) (with_items fs (functions_of o)) n.2
                (all_bound (values_of o) vs h (values_bound o (seen_there (count_of ts) x))) all
                apps,
          )

      pub terms_kept : (ts : Terms) (vs : List Used) (fs : List ℕ) → HaveNames s ps ts
          → Each (IsBoundBy names) vs
          → Grows (items_in (with_values_among s.usages s.names ps from ts vs)) u.items
          → Grows (with_functions_among s.usages s.names ps ts fs) u.items → HaveKeptNames u s ps ts
      terms_kept NoTerm vs fs n h all apps = tt
      terms_kept (OneMore a others) vs fs n h all apps = (
        term_kept a vs fs n.0 h
            (λ k g. all k (all_values_grow s.usages s.names ps from others (noted_in a vs) k g))
            (λ k g. apps k (all_functions_grow s.usages s.names ps others (applied_in a fs) k g)),
        terms_kept others (noted_in a vs) (applied_in a fs) n.1 (term_bound a vs h) all apps,
      )
