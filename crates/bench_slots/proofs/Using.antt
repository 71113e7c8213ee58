-- What an expression uses holds the names of the functions that it applies.
use Rattle.std.proofs.Common.{ℕ, ◌≡◌, zero, suc, List, [], ◌∷◌, map, reverse, Bool, true, false, Option, Some, None, Result, Ok, Err, refl, sym, ap, ◌∙◌, subst, inl, inr, eqb-true}
use Rattle.std.specs.Prelude.{◌==◌, is_some, nat_le, slice_get, if◌then◌else◌}
use Rattle.std.specs.List.{AllByRecursion as Each}
use Rattle.std.proofs.lemmas.Bool.{cases_Bool}
use Rattle.std.proofs.lemmas.Option.{none-some}
use Rattle.text_values.specs.ModelValue.{Term, Terms, Atom, AllEvents, EmptyRelation, EmptySet, Join, Mark, Not, On, Apply, NoTerm, OneMore}
use Rattle.memo_core.specs.Step.{Has}
use Rattle.binding_kinds.specs.declared.fault.ModelFault.{ModelFault}
use Rattle.binding_kinds.specs.declared.scope.Binder.{Binder}
use Rattle.binding_kinds.specs.declared.scope.Binder.TheVariants as binders
use Rattle.binding_kinds.specs.declared.scope.Found.{Found}
use Rattle.binding_kinds.specs.declared.scope.Input.{Input}
use Rattle.binding_kinds.specs.declared.scope.Used.{Used}
use Rattle.binding_kinds.specs.Value.{Naming, Bound}
use Rattle.binding_kinds.specs.Kinds.{found}
use Rattle.binding_kinds.specs.Meanings.{parameter_of}
use Rattle.binding_kinds.specs.Applicable.{applied_of}
use Rattle.binding_kinds.specs.Senses.{count_of}
use Rattle.binding_graph.specs.Inputs.{index_of, with_used, with_binder, with_found, with_name}
use Rattle.binding_graph.specs.Usages.{with_all_used, is_among, with_item, with_items, Usage, usage_at, usage_seen, values_of, functions_of, with_meaning, with_values, with_values_among, with_functions, with_functions_among, with_all_values, with_all_functions}
use Rattle.bench_slots.proofs.Lists.{each_to}
use Rattle.bench_slots.proofs.Naming.{binder_at}

-- the name is the one that its slot tells
abbrev pub IsBoundBy : List Naming → Used → Type 0
IsBoundBy names v = binder_at names v.slot ≡ Some (binders.Bound v.input)

abbrev pub items_in : List Used → List ℕ
items_in vs = map (λ v. v.input.item) vs

-- the function is one of these, and all items whose names it uses are among the items of those
-- names
pub record IsCovered (us : List Usage) (vs : List Used) (f : ℕ) : Type 0 where
  pub usage : Usage
  pub there : Has us usage
  pub item : usage.item ≡ f
  pub among : Each (λ v. Has (items_in vs) v.input.item) usage.values

-- names that their slots tell, and functions that pass on no others
pub record AreKnown (names : List Naming) (us : List Usage) (vs : List Used) (fs : List ℕ)
    : Type 0 where
  pub bound : Each (IsBoundBy names) vs
  pub covered : Each (IsCovered us vs) fs

-- ---- one more name

abbrev Grows : List Used → List Used → Type 0
Grows vs ws = (k : ℕ) → Has (items_in vs) k → Has (items_in ws) k

cover_grows : (us : List Usage) (vs ws : List Used) → Grows vs ws → (f : ℕ) → IsCovered us vs f
    → IsCovered us ws f
cover_grows us vs ws g f c = record {
  usage = c.usage;
  there = c.there;
  item = c.item;
  among =
      each_to (λ v. Has (items_in vs) v.input.item) (λ v. Has (items_in ws) v.input.item)
      (λ v h. g v.input.item h) c.usage.values c.among;
}

-- what holds where a name is added and where it is there already
noted_by : (P : List Used → Type 0) (vs : List Used) (u : Used) → P vs → P (u ∷ vs) → P (with_used vs u)
noted_by P vs u old new = at_test (is_some (index_of vs u.slot))
  where
    at_test : (b : Bool) → P (if b then vs else u ∷ vs)
    at_test true = old
    at_test false = new

same_item : (i j : Input) → Some (binders.Bound i) ≡ Some (binders.Bound j) → i.item ≡ j.item
same_item i j e = ap (λ (k : Input). k.item) (bound (some e))
  where
    some : {a b : Binder} → Some a ≡ Some b → a ≡ b
    some e = cc

    bound : binders.Bound i ≡ binders.Bound j → i ≡ j
    bound e = cc

module _ (names : List Naming) where
  noted_grows : (vs : List Used) (u : Used) → Grows vs (with_used vs u)
  noted_grows vs u k h = noted_by (λ ws. Has (items_in ws) k) vs u h (inr h)

  noted_bound : (vs : List Used) (u : Used) → Each (IsBoundBy names) vs → IsBoundBy names u
      → Each (IsBoundBy names) (with_used vs u)
  noted_bound vs u h b = noted_by (Each (IsBoundBy names)) vs u h (b, h)

  -- a name that is there already is of the same item
  there_already : (vs : List Used) (u : Used) → Each (IsBoundBy names) vs → IsBoundBy names u
      → is_some (index_of vs u.slot) ≡ true → Has (items_in vs) u.input.item
  there_already [] u h b e = cc
  there_already (v ∷ vs) u h b e = elim (cases_Bool (v.slot == u.slot)) [
    | inl s ↦ inl (same_item v.input u.input (sym h.0
        ∙ ap (binder_at names) (eqb-true v.slot u.slot s) ∙ b))
    | inr f ↦ inr (there_already vs u h.1 b (rw f at e))
  ]

  noted_has : (vs : List Used) (u : Used) → Each (IsBoundBy names) vs → IsBoundBy names u
      → Has (items_in (with_used vs u)) u.input.item
  noted_has vs u h b = at_test (is_some (index_of vs u.slot)) refl
    where
      at_test : (t : Bool) → is_some (index_of vs u.slot) ≡ t
          → Has (items_in (if t then vs else u ∷ vs)) u.input.item
      at_test true e = there_already vs u h b e
      at_test false e = inl refl

  all_bound : (ws vs : List Used) → Each (IsBoundBy names) vs → Each (IsBoundBy names) ws
      → Each (IsBoundBy names) (with_all_used vs ws)
  all_bound [] vs h g = h
  all_bound (w ∷ ws) vs h g = all_bound ws (with_used vs w) (noted_bound vs w h g.0) g.1

  all_grow : (ws vs : List Used) → Grows vs (with_all_used vs ws)
  all_grow [] vs k h = h
  all_grow (w ∷ ws) vs k h = all_grow ws (with_used vs w) k (noted_grows vs w k h)

  all_have : (ws vs : List Used) → Each (IsBoundBy names) vs → Each (IsBoundBy names) ws
      → Each (λ w. Has (items_in (with_all_used vs ws)) w.input.item) ws
  all_have [] vs h g = tt
  all_have (w ∷ ws) vs h g = (
    all_grow ws (with_used vs w) w.input.item (noted_has vs w h g.0),
    all_have ws (with_used vs w) (noted_bound vs w h g.0) g.1,
  )

  -- ---- functions

  item_covered : (P : ℕ → Type 0) (fs : List ℕ) (f : ℕ) → Each P fs → P f → Each P (with_item fs f)
  item_covered P fs f h p = at_test (is_among fs f)
    where
      at_test : (b : Bool) → Each P (if b then fs else f ∷ fs)
      at_test true = h
      at_test false = (p, h)

  items_covered : (P : ℕ → Type 0) (gs fs : List ℕ) → Each P fs → Each P gs
      → Each P (with_items fs gs)
  items_covered P [] fs h g = h
  items_covered P (f ∷ gs) fs h g =
      items_covered P gs (with_item fs f) (item_covered P fs f h g.0) g.1

  -- ---- expressions

  module _ (us : List Usage)
      (known : (u : Usage) → Has us u → AreKnown names us u.values u.functions) where
    applied_known : (o : Option Usage) (vs : List Used) (fs : List ℕ)
        → ((u : Usage) → o ≡ Some u → Has us u) → AreKnown names us vs fs
        → AreKnown names us (with_all_used vs (values_of o)) (with_items fs (functions_of o))
    applied_known None vs fs there k = k
    applied_known (Some u) vs fs there k =
        let own = known u (there u refl) in
        let have = all_have u.values vs k.bound own.bound in
        let within : Grows u.values (with_all_used vs u.values) = grows_within u.values (with_all_used vs u.values) have in
        record {
          bound = all_bound u.values vs k.bound own.bound;
          covered = items_covered (IsCovered us (with_all_used vs u.values)) (u.item ∷ u.functions) fs
              (each_to (IsCovered us vs) (IsCovered us (with_all_used vs u.values))
              (cover_grows us vs (with_all_used vs u.values) (all_grow u.values vs)) fs
              k.covered) (
                record { usage = u; there = there u refl; item = refl; among = have },
                each_to (IsCovered us u.values) (IsCovered us (with_all_used vs u.values))
                    (cover_grows us u.values (with_all_used vs u.values) within) u.functions
                    own.covered,
              );
        }
      where
        grows_within : (ws all : List Used) → Each (λ w. Has (items_in all) w.input.item) ws
            → Grows ws all
        grows_within [] all h i g = absurd g
        grows_within (w ∷ ws) all h i (inl e) = subst (Has (items_in all)) e h.0
        grows_within (w ∷ ws) all h i (inr g) = grows_within ws all h.1 i g

    has_at : (xs : List Usage) (i : ℕ) (u : Usage) → slice_get xs i ≡ Some u → Has xs u
    has_at [] i u e = absurd (none-some u e)
    has_at (x ∷ xs) zero u e = inl (some e)
      where
        some : {a b : Usage} → Some a ≡ Some b → a ≡ b
        some e = cc
    has_at (x ∷ xs) (suc i) u e = inr (has_at xs i u e)

    usage_there : (r : Result ℕ ModelFault) (u : Usage) → usage_at us r ≡ Some u → Has us u
    usage_there (Ok f) u e = has_at us f u e
    usage_there (Err k) u e = absurd (none-some u e)

    -- the names that an expression sees, of which those of the item itself have the slot `from` and
    -- those behind it
    module _ (seen_names : List Naming) (ps : List (List ℕ)) (from : ℕ)
        (seen : (x : List ℕ) (f : Found) → found seen_names x ≡ Some f → nat_le from f.slot ≡ false
        → binder_at names f.slot ≡ Some f.binder) where
      binder_known : (slot : ℕ) (b : Binder) (vs : List Used) (fs : List ℕ)
          → binder_at names slot ≡ Some b → AreKnown names us vs fs
          → AreKnown names us (with_binder vs slot b) fs
      binder_known slot (binders.Predefined p) vs fs e k = k
      binder_known slot (binders.Bound i) vs fs e k =
          let u : Used = record { slot = slot; input = i } in
          record {
            bound = noted_bound vs u k.bound e;
            covered =
                each_to (IsCovered us vs) (IsCovered us (with_used vs u))
                (cover_grows us vs (with_used vs u) (noted_grows vs u)) fs k.covered;
          }
      binder_known slot (binders.Applicable f) vs fs e k = k

      found_known : (x : List ℕ) (f : Found) (vs : List Used) (fs : List ℕ)
          → found seen_names x ≡ Some f → AreKnown names us vs fs
          → AreKnown names us (with_found vs from f) fs
      found_known x f vs fs e k = at_test (nat_le from f.slot) refl
        where
          at_test : (b : Bool) → nat_le from f.slot ≡ b
              → AreKnown names us (if b then vs else with_binder vs f.slot f.binder) fs
          at_test true t = k
          at_test false t = binder_known f.slot f.binder vs fs (seen x f e t) k

      name_known : (x : List ℕ) (o : Option Found) (vs : List Used) (fs : List ℕ)
          → found seen_names x ≡ o → AreKnown names us vs fs
          → AreKnown names us (with_name vs from o) fs
      name_known x None vs fs e k = k
      name_known x (Some f) vs fs e k = found_known x f vs fs e k

      meaning_known : (p : Option ℕ) (x : List ℕ) (vs : List Used) (fs : List ℕ)
          → AreKnown names us vs fs
          → AreKnown names us (with_meaning vs from p (found seen_names x)) fs
      meaning_known (Some i) x vs fs k = k
      meaning_known None x vs fs k = name_known x (found seen_names x) vs fs refl k

      mutual
        pub term_known : (t : Term) (vs : List Used) (fs : List ℕ) → AreKnown names us vs fs
            → AreKnown names us (with_values us seen_names ps from t vs)
            (with_functions us seen_names ps t fs)
        term_known (Atom x) vs fs k = meaning_known (parameter_of (reverse ps) x) x vs fs k
        term_known AllEvents vs fs k = k
        term_known EmptyRelation vs fs k = k
        term_known EmptySet vs fs k = k
        term_known (Join op a b) vs fs k =
            term_known b (with_values us seen_names ps from a vs)
            (with_functions us seen_names ps a fs) (term_known a vs fs k)
        term_known (Mark op a) vs fs k = term_known a vs fs k
        term_known (Not a) vs fs k = term_known a vs fs k
        term_known (On a) vs fs k = term_known a vs fs k
        term_known (Apply x ts) vs fs k =
            let o : Option Usage = usage_seen us seen_names ps (count_of ts) x in
            terms_known ts (with_all_used vs (values_of o)) (with_items fs (functions_of o))
            (applied_known o vs fs
            (usage_there (applied_of (λ f. slice_get (map (λ u. u.arity) us) f)
            (count_of ts) (parameter_of (reverse ps) x) (found seen_names x))) k)

        pub terms_known : (ts : Terms) (vs : List Used) (fs : List ℕ) → AreKnown names us vs fs
            → AreKnown names us (with_values_among us seen_names ps from ts vs)
            (with_functions_among us seen_names ps ts fs)
        terms_known NoTerm vs fs k = k
        terms_known (OneMore a others) vs fs k =
            terms_known others (with_values us seen_names ps from a vs)
            (with_functions us seen_names ps a fs) (term_known a vs fs k)

  -- the bodies of a group
  module _ (us : List Usage)
      (known : (u : Usage) → Has us u → AreKnown names us u.values u.functions)
      (seen_names : List Naming) (from : ℕ)
      (seen : (x : List ℕ) (f : Found) → found seen_names x ≡ Some f → nat_le from f.slot ≡ false
      → binder_at names f.slot ≡ Some f.binder) where
    pub bodies_known : (bs : List Bound) (vs : List Used) (fs : List ℕ) → AreKnown names us vs fs
        → AreKnown names us (with_all_values us seen_names from bs vs)
        (with_all_functions us seen_names bs fs)
    bodies_known [] vs fs k = k
    bodies_known (b ∷ bs) vs fs k =
        bodies_known bs (with_values us seen_names [] from b.body vs)
        (with_functions us seen_names [] b.body fs)
        (term_known us known seen_names [] from seen b.body vs fs k)
