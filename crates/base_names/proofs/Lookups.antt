-- Sets and relations that are held by their names.
use Rattle.std.proofs.Common.{ℕ, zero, suc, ◌≡◌, ◌<◌, ◌+◌, ◌↔◌, List, [], ◌∷◌, length, get_or, set, Contains, inl, inr, arith, refl, ap, get_or-set_other, get_or-set_same}
use Rattle.std.proofs.lemmas.Bool.{cases_eq}
use Rattle.bit_rows.specs.Relation.{Relation, Events, IsRelation, IsEvents}
use Rattle.predefined_names.specs.declared.predefined.Predefined.{Predefined}
use Rattle.store_orders.specs.declared.combination.Combination.{Combination}
use Rattle.base_names.specs.declared.names.Named.{Named}
use Rattle.base_names.specs.declared.names.Shared.{Shared}
use Rattle.base_names.specs.Known.{EventsUnder, PairsUnder, set_names, shared_names}
use Rattle.base_names.specs.Candidate.{AreNamedSets, AreNamedRelations, SetIn, SharedIn}
use Rattle.base_names.proofs.Same.{same_or_not}
use Rattle.std.proofs.lemmas.List.{get_or_default}

below : {a i : ℕ} → (a ≡ i → ⊥) → a < i + 1 → a < i
below ne lt = omega arith

-- ---- one value is written over

pub set_names_kept : (xs : List Named) (k : ℕ) (d : Named) (s : Events) → k < length xs
    → set_names (set xs k (record { name = (get_or xs k d).name; set = s })) ≡ set_names xs
set_names_kept [] k d s inside = absurd (omega (arith, inside))
set_names_kept (x ∷ xs) zero d s inside = refl
set_names_kept (x ∷ xs) (suc k) d s inside =
    ap (λ ns. x.name ∷ ns) (set_names_kept xs k d s (omega (arith, inside)))

pub shared_names_kept : (xs : List Shared) (k : ℕ) (d : Shared) (r : Relation) → k < length xs
    → shared_names (set xs k (record { name = (get_or xs k d).name; relation = r }))
    ≡ shared_names xs
shared_names_kept [] k d r inside = absurd (omega (arith, inside))
shared_names_kept (x ∷ xs) zero d r inside = refl
shared_names_kept (x ∷ xs) (suc k) d r inside =
    ap (λ ns. x.name ∷ ns) (shared_names_kept xs k d r (omega (arith, inside)))

pub sets_more : (xs : List Named) (k n : ℕ) (c : Combination) (d d' : Named) (s : Events)
    → k < length xs
    → ((i : ℕ) → i < k → (e : Named)
    → IsEvents (get_or xs i e).set n (SetIn c n (get_or xs i e).name))
    → IsEvents s n (SetIn c n (get_or xs k d').name) → (i : ℕ) → i < k + 1 → (e : Named)
    → IsEvents (get_or (set xs k (record { name = (get_or xs k d).name; set = s })) i e).set n
    (SetIn c n (get_or (set xs k (record { name = (get_or xs k d).name; set = s })) i e).name)
sets_more xs k n c d d' s inside before now i lt e = elim (cases_eq i k) [
  | inl here ↦
      let new : Named = record { name = (get_or xs k d).name; set = s } in
      let found : get_or (set xs k new) i e ≡ new = rw here (get_or-set_same xs k new e inside) in
      rw found (rw (get_or_default xs k d d' inside) now)
  | inr other ↦
      let found : get_or (set xs k (record { name = (get_or xs k d).name; set = s })) i e
      ≡ get_or xs i e = get_or-set_other xs k i _ e other in
      rw found (before i (below other lt) e)
]

pub shared_more : (xs : List Shared) (k n : ℕ) (c : Combination) (d d' : Shared) (r : Relation)
    → k < length xs
    → ((i : ℕ) → i < k → (e : Shared)
    → IsRelation (get_or xs i e).relation n (SharedIn c n (get_or xs i e).name))
    → IsRelation r n (SharedIn c n (get_or xs k d').name) → (i : ℕ) → i < k + 1 → (e : Shared)
    → IsRelation
    (get_or (set xs k (record { name = (get_or xs k d).name; relation = r })) i e).relation n
    (SharedIn c n (get_or (set xs k (record { name = (get_or xs k d).name; relation = r })) i
    e).name)
shared_more xs k n c d d' r inside before now i lt e = elim (cases_eq i k) [
  | inl here ↦
      let new : Shared = record { name = (get_or xs k d).name; relation = r } in
      let found : get_or (set xs k new) i e ≡ new = rw here (get_or-set_same xs k new e inside) in
      rw found (rw (get_or_default xs k d d' inside) now)
  | inr other ↦
      let found : get_or (set xs k (record { name = (get_or xs k d).name; relation = r })) i e
      ≡ get_or xs i e = get_or-set_other xs k i _ e other in
      rw found (before i (below other lt) e)
]

-- ---- what is found under a name that is held

pub under_set : (xs : List Named) (n : ℕ) (c : Combination) (name : Predefined) → AreNamedSets xs n c
    → Contains (set_names xs) name → (a : ℕ) → EventsUnder xs name n a ↔ SetIn c n name a
under_set [] n c name right held a = absurd (omega (arith, held.1))
under_set (x ∷ xs) n c name right held a =
    let here : IsEvents x.set n (SetIn c n x.name) = right 0 (omega arith) x in
    elim (same_or_not x.name name) [
      | inl same ↦ (
        (λ h. elim h [ inl f ↦ rw (← same) ((here.members a).0 f.2) | inr g ↦ absurd (g.0 same) ]),
        (λ s. inl (same, here.count, (here.members a).1 (rw same s))),
      )
      | inr other ↦
          let rest = under_set xs n c name (λ i lt d. right (suc i) (omega (arith, lt)) d) (later held other) a in (
            (λ h. elim h [ inl f ↦ absurd (other f.0) | inr g ↦ rest.0 g.1 ]),
            (λ s. inr (other, rest.1 s)),
          )
    ]
  where
    later : Contains (x.name ∷ set_names xs) name → (x.name ≡ name → ⊥)
        → Contains (set_names xs) name
    later (zero, lt, e) ne = absurd (ne e)
    later (suc k, lt, e) ne = (k, omega (arith, lt), e)

pub under_shared : (xs : List Shared) (n : ℕ) (c : Combination) (name : Predefined)
    → AreNamedRelations xs n c → Contains (shared_names xs) name → (a b : ℕ)
    → PairsUnder xs name n a b ↔ SharedIn c n name a b
under_shared [] n c name right held a b = absurd (omega (arith, held.1))
under_shared (x ∷ xs) n c name right held a b =
    let here : IsRelation x.relation n (SharedIn c n x.name) = right 0 (omega arith) x in
    elim (same_or_not x.name name) [
      | inl same ↦ (
        (λ h. elim h [ inl f ↦ rw (← same) ((here.pairs a b).0 f.2) | inr g ↦ absurd (g.0 same) ]),
        (λ s. inl (same, here.count, (here.pairs a b).1 (rw same s))),
      )
      | inr other ↦
          let rest = under_shared xs n c name (λ i lt d. right (suc i) (omega (arith, lt)) d) (later held other) a b in (
            (λ h. elim h [ inl f ↦ absurd (other f.0) | inr g ↦ rest.0 g.1 ]),
            (λ s. inr (other, rest.1 s)),
          )
    ]
  where
    later : Contains (x.name ∷ shared_names xs) name → (x.name ≡ name → ⊥)
        → Contains (shared_names xs) name
    later (zero, lt, e) ne = absurd (ne e)
    later (suc k, lt, e) ne = (k, omega (arith, lt), e)
