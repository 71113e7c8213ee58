-- No group of a model without fault has one name twice.
use Rattle.std.proofs.Common.{ℕ, ◌≡◌, zero, suc, ◌+◌, inl, inr, Bool, true, false, List, [], ◌∷◌, length, map, Some, slice_get, refl, sym, ap, ◌∙◌, subst}
use Rattle.std.proofs.lemmas.Option.{none-some, same_Some}
use Rattle.binding_kinds.specs.declared.fault.ModelFault.{ModelFault}
use Rattle.binding_kinds.specs.declared.fault.ModelFault.TheVariants as faults
use Rattle.binding_kinds.specs.declared.scope.Used.{Used}
use Rattle.binding_kinds.specs.Value.{Naming, Bound, BareItem, Group, Check, Mute, Defined}
use Rattle.binding_kinds.specs.Senses.{Sense}
use Rattle.binding_kinds.specs.Faults.{width, IsAmong, IsFaultIn, IsFaultOfItem, IsFaultBehind, with_own, names_after, senses_after}
use Rattle.binding_graph.specs.declared.resolved.Body.{Body}
use Rattle.binding_graph.specs.declared.resolved.ResolvedItem.{ResolvedItem}
use Rattle.binding_graph.specs.declared.resolved.Role.{Role}
use Rattle.binding_graph.specs.declared.resolved.Role.TheVariants as roles
use Rattle.binding_graph.specs.Usages.{Usage, with_values, usages_after}
use Rattle.binding_graph.specs.Resolved.{AreBodies, IsGroupRole, IsCheckRole, IsResolvedIn, AreResolved}
use Rattle.bench_edits.specs.Settled.{StandsOnce}

-- the names of a group, in the order of the text
abbrev pub bound_names : Role → List (List ℕ)
bound_names (roles.Group recursive bodies) = map (λ b. b.name) bodies.items
bound_names (roles.Check check) = []
bound_names roles.Silent = []

-- ---- the bindings of a group

module _ (ss : List Sense) (names : List Naming) (from : ℕ) (recursive : Bool) where
  abbrev HasNone : List (List ℕ) → List Bound → Type 0
  HasNone earlier bs =
      (index : ℕ) (k : ModelFault) → IsFaultIn ss names from recursive earlier bs index k → ⊥

  rest_none : (earlier : List (List ℕ)) (b : Bound) (bs : List Bound) → HasNone earlier (b ∷ bs)
      → HasNone (b.name ∷ earlier) bs
  rest_none earlier b bs h index k f = h (1 + width b.body + index) k (inr (inr (index, refl, f)))

  -- no name stands earlier
  not_earlier : (earlier : List (List ℕ)) (bs : List Bound) → HasNone earlier bs
      → (p : ℕ) (x : List ℕ) → slice_get (map (λ b. b.name) bs) p ≡ Some x → IsAmong earlier x → ⊥
  not_earlier earlier [] h p x at a = absurd (none-some x at)
  not_earlier earlier (b ∷ bs) h zero x at a =
      h 0 faults.Duplicate (inl (
        refl,
        inl (subst (IsAmong earlier) (sym (same_Some _ _ at)) a, refl),
      ))
  not_earlier earlier (b ∷ bs) h (suc p) x at a =
      not_earlier (b.name ∷ earlier) bs (rest_none earlier b bs h) p x at (inr a)

  bounds_once : (earlier : List (List ℕ)) (bs : List Bound) → HasNone earlier bs
      → StandsOnce (map (λ b. b.name) bs)
  bounds_once earlier [] h p q x at also = absurd (none-some x at)
  bounds_once earlier (b ∷ bs) h zero zero x at also = refl
  bounds_once earlier (b ∷ bs) h zero (suc q) x at also =
      absurd (not_earlier (b.name ∷ earlier) bs (rest_none earlier b bs h) q x also
      (inl (same_Some _ _ at)))
  bounds_once earlier (b ∷ bs) h (suc p) zero x at also =
      absurd (not_earlier (b.name ∷ earlier) bs (rest_none earlier b bs h) p x at
      (inl (same_Some _ _ also)))
  bounds_once earlier (b ∷ bs) h (suc p) (suc q) x at also =
      ap suc (bounds_once (b.name ∷ earlier) bs (rest_none earlier b bs h) p q x at also)

-- ---- what an item is resolved to

bodies_named : (ss : List Sense) (us : List Usage) (names : List Naming) (from : ℕ) (vs : List Used)
    (bs : List Bound) (rs : List Body) → AreBodies ss us names from vs bs rs
    → map (λ r. r.name) rs ≡ map (λ b. b.name) bs
bodies_named ss us names from vs [] [] h = refl
bodies_named ss us names from vs [] (r ∷ rs) h = absurd h
bodies_named ss us names from vs (b ∷ bs) [] h = absurd h
bodies_named ss us names from vs (b ∷ bs) (r ∷ rs) h =
    ap (λ (n : List ℕ). n ∷ map (λ (q : Body). q.name) rs) h.0
    ∙ ap (λ (l : List (List ℕ)). b.name ∷ l) (bodies_named ss us names from
    (with_values us names [] from b.body vs) bs rs h.2)

group_once : (ss : List Sense) (us : List Usage) (names : List Naming) (from : ℕ) (recursive : Bool)
    (bs : List Bound) (role : Role) → StandsOnce (map (λ b. b.name) bs)
    → IsGroupRole ss us names from recursive bs role → StandsOnce (bound_names role)
group_once ss us names from recursive bs (roles.Group r bodies) once h =
    subst (λ (l : List (List ℕ)). StandsOnce l)
    (sym (bodies_named ss us names from [] bs bodies.items h.1)) once
group_once ss us names from recursive bs (roles.Check c) once h = absurd h
group_once ss us names from recursive bs roles.Silent once h = absurd h

none_once : StandsOnce {A = List ℕ} []
none_once p q x at also = absurd (none-some x at)

check_once : (role : Role) → (bound_names role ≡ []) → StandsOnce (bound_names role)
check_once role e = subst (λ (l : List (List ℕ)). StandsOnce l) (sym e) none_once

item_once : (ss : List Sense) (us : List Usage) (names own : List Naming) (item : ℕ) (c : BareItem)
    (r : ResolvedItem)
    → ((index : ℕ) (k : ModelFault) → IsFaultOfItem ss names item c index k → ⊥)
    → IsResolvedIn ss us names own (length names) c r → StandsOnce (bound_names r.role)
item_once ss us names own item (Group true bs) r none h =
    group_once ss us own (length names) true bs r.role
    (bounds_once ss (with_own names item 0 bs) (length names) true [] bs none) h.0
item_once ss us names own item (Group false bs) r none h =
    group_once ss us names (length names) false bs r.role
    (bounds_once ss names (length names) false [] bs none) h.0
item_once ss us names own item (Check w e) r none h = check_once r.role (by_role r.role h.0)
  where
    by_role : (role : Role) → IsCheckRole ss us names (length names) w e role
        → bound_names role ≡ []
    by_role (roles.Group recursive bodies) is = absurd is
    by_role (roles.Check check) is = refl
    by_role roles.Silent is = refl
item_once ss us names own item Mute r none h = check_once r.role (ap bound_names h.0)
item_once ss us names own item (Defined n ps b) r none h = check_once r.role (ap bound_names h.0)

-- each item of a model without fault
pub names_once : (ss : List Sense) (us : List Usage) (names : List Naming) (at : ℕ)
    (cs : List BareItem) (rs : List ResolvedItem)
    → ((i p : ℕ) (l : ModelFault) → IsFaultBehind ss names at cs i p l → ⊥)
    → AreResolved ss us names at cs rs
    → (index : ℕ) (r : ResolvedItem) → slice_get rs index ≡ Some r → StandsOnce (bound_names r.role)
names_once ss us names at [] [] none h index r found = absurd (none-some r found)
names_once ss us names at [] (q ∷ rs) none h index r found = absurd h
names_once ss us names at (c ∷ cs) [] none h index r found = absurd h
names_once ss us names at (c ∷ cs) (q ∷ rs) none h zero r found =
    subst (λ (x : ResolvedItem). StandsOnce (bound_names x.role)) (some_item found)
    (item_once ss us names (names_after ss names at c) at c q
    (λ index k f. none 0 index k (inl (refl, f))) h.0)
  where
    some_item : Some q ≡ Some r → q ≡ r
    some_item e = cc
names_once ss us names at (c ∷ cs) (q ∷ rs) none h (suc index) r found =
    names_once (senses_after ss names c) (usages_after us names at c) (names_after ss names at c)
    (at + 1) cs rs (λ i p l f. none (1 + i) p l (inr (i, refl, f))) h.1 index r found
