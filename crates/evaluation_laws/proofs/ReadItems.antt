-- The names of an item that is used are kept.
use Rattle.std.proofs.Common.{ℕ, ◌≡◌, ◌+◌, ◌⊎◌, suc, List, [], ◌∷◌, length, map, reverse, Bool, true, false, Some, refl, sym, ap, ◌∙◌, subst, inl, inr, arith}
use Rattle.std.specs.Prelude.{bytes_eq, nat_le, slice_get, if◌then◌else◌}
use Rattle.std.specs.List.{AllByRecursion as Each}
use Rattle.std.proofs.lemmas.Bool.Decides.{nat_tests}
use Rattle.memo_core.specs.Step.{Has}
use Rattle.binding_kinds.specs.declared.fault.ModelFault.{ModelFault}
use Rattle.binding_kinds.specs.declared.kinds.Kind.TheVariants.{OfRelation}
use Rattle.binding_kinds.specs.declared.scope.Binder.TheVariants as binders
use Rattle.binding_kinds.specs.declared.scope.Found.{Found}
use Rattle.binding_kinds.specs.declared.scope.Input.{Input}
use Rattle.binding_kinds.specs.declared.scope.Used.{Used}
use Rattle.binding_kinds.specs.Value.{Naming, Bound, BareItem, Group, Check, Mute, Defined}
use Rattle.binding_kinds.specs.Kinds.{found}
use Rattle.binding_kinds.specs.Senses.{Sense}
use Rattle.binding_kinds.specs.Faults.{naming_at, with_own, names_after, IsFaultOfItem}
use Rattle.binding_graph.specs.declared.resolved.ResolvedItem.{ResolvedItem}
use Rattle.binding_graph.specs.Inputs.{inputs_of}
use Rattle.binding_graph.specs.Resolved.{IsResolvedIn}
use Rattle.binding_graph.specs.Usages.{Usage, with_values, with_functions, with_all_values, with_all_functions}
use Rattle.binding_laws.specs.ItemLaws.{Scope, scope_with_names}
use Rattle.bench_slots.proofs.Lists.{has_reverse, has_map}
use Rattle.bench_slots.proofs.Naming.{binder_at, at_below, found_at, own_same}
use Rattle.bench_slots.proofs.Using.{IsBoundBy, items_in}
use Rattle.std.proofs.lemmas.Bool.{leb-false}
use Rattle.std.proofs.lemmas.Option.{same_Some}
use Rattle.binding_laws.proofs.Named.{HasNames}
use Rattle.evaluation_laws.proofs.Kept.{Reach, IsKept, HasKeptNames, Grows, values_grow, functions_grow, term_bound, term_kept}
use Rattle.binding_laws.proofs.Sound.{sound_term, sound_group, sound_body}

-- each name of an item is kept: the bodies of a recursive group see its own names too
abbrev pub HasKeptNamesIn : Reach → Scope → List Naming → BareItem → Type 0
HasKeptNamesIn u s own (Group true bs) = Each (λ b. HasKeptNames u (scope_with_names s own) [] b.body) bs
HasKeptNamesIn u s own (Group false bs) = Each (λ b. HasKeptNames u s [] b.body) bs
HasKeptNamesIn u s own (Check w e) = HasKeptNames u s [] e
HasKeptNamesIn u s own Mute = Unit {0}
HasKeptNamesIn u s own (Defined n ps b) = HasKeptNames u s ps b

-- ---- what an item uses

pub of_map : {X Y : Type 0} (f : X → Y) (xs : List X) (y : Y) → Has (map f xs) y
    → (x : X) × Has xs x × (f x ≡ y)
of_map f [] y h = absurd h
of_map f (x ∷ xs) y (inl e) = (x, inl refl, e)
of_map f (x ∷ xs) y (inr h) = let r = of_map f xs y h in (r.0, inr r.1, r.2)

inputs_have : (vs : List Used) (k : ℕ) → Has (items_in vs) k
    → Has (map (λ i. i.item) (inputs_of vs)) k
inputs_have vs k h =
    let v = of_map (λ (v : Used). v.input.item) vs k h in
    let there : Has (inputs_of vs) v.0.input = has_map (λ (w : Used). w.input) (reverse vs) v.0 (has_reverse vs v.0 v.1) in
    subst (Has (map (λ (i : Input). i.item) (inputs_of vs))) v.2 (has_map (λ (i : Input). i.item)
    (inputs_of vs) v.0.input there)

inputs_kept : (us : List ℕ) (r : ResolvedItem) (vs : List Used) → r.inputs.items ≡ inputs_of vs
    → Grows (map (λ i. i.item) r.inputs.items) us → Grows (items_in vs) us
inputs_kept us r vs e all k h =
    all k (subst (λ (l : List Input). Has (map (λ i. i.item) l) k) (sym e) (inputs_have vs k h))

functions_kept : (us : List ℕ) (r : ResolvedItem) (fs : List ℕ) → r.functions.items ≡ reverse fs
    → Grows r.functions.items us → Grows fs us
functions_kept us r fs e all k h =
    all k (subst (λ (l : List ℕ). Has l k) (sym e) (has_reverse fs k h))

all_values_grow : (us : List Usage) (names : List Naming) (from : ℕ) (bs : List Bound)
    (vs : List Used) → Grows (items_in vs) (items_in (with_all_values us names from bs vs))
all_values_grow us names from [] vs k h = h
all_values_grow us names from (b ∷ bs) vs k h =
    all_values_grow us names from bs (with_values us names [] from b.body vs) k
    (values_grow us names [] from b.body vs k h)

all_functions_grow : (us : List Usage) (names : List Naming) (bs : List Bound) (fs : List ℕ)
    → Grows fs (with_all_functions us names bs fs)
all_functions_grow us names [] fs k h = h
all_functions_grow us names (b ∷ bs) fs k h =
    all_functions_grow us names bs (with_functions us names [] b.body fs) k
    (functions_grow us names [] b.body fs k h)

module _ (outer : List Naming) (u : Reach) (s : Scope) (from : ℕ)
    (seen : (x : List ℕ) (f : Found) → found s.names x ≡ Some f → nat_le from f.slot ≡ false
    → binder_at outer f.slot ≡ Some f.binder)
    (own : (x : List ℕ) (f : Found) → found s.names x ≡ Some f → nat_le from f.slot ≡ true
    → IsKept u f.binder)
    (values : (w : Usage) → Has s.usages w → Each (IsBoundBy outer) w.values)
    (functions : (k : ℕ) (w : Usage) → slice_get s.usages k ≡ Some w
    → slice_get u.functions k ≡ Some w.item) where
  bodies_kept : (bs : List Bound) (vs : List Used) (fs : List ℕ)
      → Each (λ b. HasNames s [] b.body) bs → Each (IsBoundBy outer) vs
      → Grows (items_in (with_all_values s.usages s.names from bs vs)) u.items
      → Grows (with_all_functions s.usages s.names bs fs) u.items
      → Each (λ b. HasKeptNames u s [] b.body) bs
  bodies_kept [] vs fs n h all apps = tt
  bodies_kept (b ∷ bs) vs fs n h all apps =
      let more = with_values s.usages s.names [] from b.body vs in
      let gone = with_functions s.usages s.names [] b.body fs in (
        term_kept outer u s [] from seen own values functions b.body vs fs n.0 h
            (λ k g. all k (all_values_grow s.usages s.names from bs more k g))
            (λ k g. apps k (all_functions_grow s.usages s.names bs gone k g)),
        bodies_kept bs more gone n.1
            (term_bound outer u s [] from seen own values functions b.body vs h) all apps,
      )

-- ---- the names of the item itself

abbrev IsOwn : ℕ → Found → Type 0
IsOwn item f = (p : ℕ) × (f.binder ≡ binders.Bound (record { item = item; position = p }))

own_found : (bs : List Bound) (names : List Naming) (item at : ℕ) (x : List ℕ) (f : Found)
    → found (with_own names item at bs) x ≡ Some f → (found names x ≡ Some f) ⊎ IsOwn item f
own_found [] names item at x f e = inl e
own_found (b ∷ bs) names item at x f e =
    at_first (own_found bs (naming_at item at b OfRelation ∷ names) item (suc at) x f e)
  where
    at_test : (t : Bool)
        → (if t then Some (record {
          slot = length names;
          kind = OfRelation;
          binder = binders.Bound (record { item = item; position = at });
        })
        else found names x) ≡ Some f → (found names x ≡ Some f) ⊎ IsOwn item f
    at_test true h = inr (at, ap (λ (g : Found). g.binder) (sym (same_Some _ _ h)))
    at_test false h = inl h

    at_first : (found (naming_at item at b OfRelation ∷ names) x ≡ Some f) ⊎ IsOwn item f
        → (found names x ≡ Some f) ⊎ IsOwn item f
    at_first (inl h) = at_test (bytes_eq b.name x) h
    at_first (inr h) = inr h

-- ---- items

module _ (u : Reach) (s : Scope) (at : ℕ)
    (counts : map (λ (w : Usage). w.arity) s.usages ≡ map (λ (b : Sense). b.arity) s.senses)
    (values : (w : Usage) → Has s.usages w → Each (IsBoundBy s.names) w.values)
    (functions : (k : ℕ) (w : Usage) → slice_get s.usages k ≡ Some w
    → slice_get u.functions k ≡ Some w.item)
    (here : Has u.items at) where
  seen_outer : (x : List ℕ) (f : Found) → found s.names x ≡ Some f
      → nat_le (length s.names) f.slot ≡ false → binder_at s.names f.slot ≡ Some f.binder
  seen_outer x f e t = found_at s.names x f e

  no_own : (x : List ℕ) (f : Found) → found s.names x ≡ Some f
      → nat_le (length s.names) f.slot ≡ true → IsKept u f.binder
  no_own x f e t =
      absurd (let lt = at_below s.names f.slot f.binder (found_at s.names x f e) in
      let low : nat_le (length s.names) f.slot ≡ false = grind (arith, nat_tests, lt) in
      let n : true ≡ false = sym t ∙ low in cc)

  seen_own : (bs : List Bound) (x : List ℕ) (f : Found)
      → found (with_own s.names at 0 bs) x ≡ Some f → nat_le (length s.names) f.slot ≡ false
      → binder_at s.names f.slot ≡ Some f.binder
  seen_own bs x f e t =
      sym (own_same bs s.names at 0 f.slot (leb-false (length s.names) f.slot t))
      ∙ found_at (with_own s.names at 0 bs) x f e

  own_kept : (bs : List Bound) (x : List ℕ) (f : Found)
      → found (with_own s.names at 0 bs) x ≡ Some f → nat_le (length s.names) f.slot ≡ true
      → IsKept u f.binder
  own_kept bs x f e t = at_first (own_found bs s.names at 0 x f e)
    where
      at_first : (found s.names x ≡ Some f) ⊎ IsOwn at f → IsKept u f.binder
      at_first (inl h) = no_own x f h t
      at_first (inr h) = subst (IsKept u) (sym h.1) here

  pub item_kept : (c : BareItem) (r : ResolvedItem)
      → ((i : ℕ) (k : ModelFault) → IsFaultOfItem s.senses s.names at c i k → ⊥)
      → IsResolvedIn s.senses s.usages s.names (names_after s.senses s.names at c) (length s.names) c r
      → Grows (map (λ i. i.item) r.inputs.items) u.items → Grows r.functions.items u.items
      → HasKeptNamesIn u s (names_after s.senses s.names at c) c
  item_kept (Group true bs) r none h all apps =
      let t = scope_with_names s (with_own s.names at 0 bs) in
      bodies_kept s.names u t (length s.names) (seen_own bs) (own_kept bs) values functions bs [] []
      (sound_group t counts (length s.names) true [] bs none) tt
      (inputs_kept u.items r _ h.1.inputs all) (functions_kept u.items r _ h.1.functions apps)
  item_kept (Group false bs) r none h all apps =
      bodies_kept s.names u s (length s.names) seen_outer no_own values functions bs [] []
      (sound_group s counts (length s.names) false [] bs none) tt
      (inputs_kept u.items r _ h.1.inputs all) (functions_kept u.items r _ h.1.functions apps)
  item_kept (Check w e) r none h all apps =
      term_kept s.names u s [] (length s.names) seen_outer no_own values functions e [] []
      (sound_term s counts (length s.names) false e
      (λ i k f. none (1 + i) k (inr (i, refl, f)))) tt
      (inputs_kept u.items r _ h.1.inputs all)
      (functions_kept u.items r _ h.1.functions apps)
  item_kept Mute r none h all apps = tt
  item_kept (Defined n ps b) r none h all apps =
      term_kept s.names u s ps (length s.names) seen_outer no_own values functions b [] []
      (sound_body s counts ps b (λ i k f. none (length ps + i) k (inr (i, refl, f)))) tt
      (inputs_kept u.items r _ h.1.inputs all) (functions_kept u.items r _ h.1.functions apps)
