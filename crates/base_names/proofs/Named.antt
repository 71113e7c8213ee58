-- Each shared relation by its name.
use Rattle.std.proofs.Common.{ℕ, ◌≡◌, ◌↔◌, inl, inr, refl}
use Rattle.bit_rows.specs.Relation.{Relation, Has, IsRelation}
use Rattle.bit_rows.specs.Pairs.{Union, Opt, Complement}
use Rattle.predefined_names.specs.declared.predefined.Predefined.{Predefined}
use Rattle.predefined_names.specs.declared.predefined.Predefined.TheVariants as names
use Rattle.store_orders.specs.declared.combination.Combination.{Combination}
use Rattle.base_names.specs.Events.{Below, Links}
use Rattle.base_names.specs.Names.{Fixed}
use Rattle.base_names.proofs.Linking.{with_pairs}
use Rattle.base_names.proofs.Fences.{one_event}

-- what is added to nothing
pub from_nothing : {start made : Relation} {n : ℕ} (R : ℕ → ℕ → Type 0)
    → IsRelation start n (λ a b. ⊥)
    → IsRelation made start.count (Union (Has start) (Below start.count R))
    → IsRelation made n (Below n R)
from_nothing {start} {made} {n} R none step = with_pairs (counted step) (λ a b. (
  (λ h. elim h [ inl x ↦ absurd ((none.pairs a b).0 x) | inr y ↦ y ]),
  (λ y. inr y),
))
  where
    counted : IsRelation made start.count (Union (Has start) (Below start.count R))
        → IsRelation made n (Union (Has start) (Below n R))
    counted = rw none.count (λ r. r)

-- how the links of two events are the named relations
pub links_program : (c : Combination) (n a b : ℕ)
    → Links c.events.items names.ProgramOrder a b ↔ Fixed names.ProgramOrder n c a b
links_program c n a b = (
  (λ h. (h.4.0, (h.0, h.1, h.2, h.3, h.4.1))),
  (λ h. (h.1.0, h.1.1, h.1.2, h.1.3, (h.0, h.1.4))),
)

pub links_both : (c : Combination) (n a b : ℕ)
    → Links c.events.items names.ProgramOrderSameLocation a b
    ↔ Fixed names.ProgramOrderSameLocation n c a b
links_both c n a b = (
  (λ h. ((h.4.0, (h.0, h.1, h.2, h.3, h.4.1)), (h.0, h.1, h.2, h.3, h.4.2))),
  (λ h.
      let first : h.0.1.0 ≡ h.1.0 = one_event c.events.items a h.0.1.0 h.1.0 h.0.1.2 h.1.2 in
      let second : h.0.1.1 ≡ h.1.1 = one_event c.events.items b h.0.1.1 h.1.1 h.0.1.3 h.1.3 in
      (h.0.1.0, h.0.1.1, h.0.1.2, h.0.1.3, (h.0.0, h.0.1.4, rw (first, second) h.1.4))),
)

-- a shared relation that is made by links
pub linked_is : {start made : Relation} {n : ℕ} (c : Combination) (name : Predefined)
    → ((a b : ℕ) → Links c.events.items name a b ↔ Fixed name n c a b)
    → IsRelation start n (λ a b. ⊥)
    → IsRelation made start.count (Union (Has start)
    (Below start.count (Links c.events.items name)))
    → IsRelation made n (Below n (Fixed name n c))
linked_is c name same none step =
    with_pairs (from_nothing (Links c.events.items name) none step) (λ a b. (
      (λ h. (h.0, h.1, (same a b).0 h.2)),
      (λ h. (h.0, h.1, (same a b).1 h.2)),
    ))

pub identity_is : {start made : Relation} {n : ℕ} (c : Combination) → IsRelation start n (λ a b. ⊥)
    → IsRelation made start.count (Opt start.count (Has start))
    → IsRelation made n (Below n (Fixed names.Identity n c))
identity_is {start} {made} {n} c none step = with_pairs (counted step) (λ a b. (
  (λ h. elim h [ inl i ↦ (i.0, rw (← i.1) i.0, i) | inr x ↦ absurd ((none.pairs a b).0 x) ]),
  (λ h. inl h.2),
))
  where
    counted : IsRelation made start.count (Opt start.count (Has start))
        → IsRelation made n (Opt n (Has start))
    counted = rw none.count (λ r. r)

pub external_is : {start within made : Relation} {n : ℕ} (c : Combination)
    → IsRelation start n (λ a b. ⊥)
    → IsRelation within start.count (Union (Has start)
    (Below start.count (Links c.events.items names.Internal)))
    → IsRelation made within.count (Complement within.count (Has within))
    → IsRelation made n (Below n (Fixed names.External n c))
external_is {start} {within} {made} {n} c none inside step =
    let w : IsRelation within n (Below n (Links c.events.items names.Internal)) = from_nothing (Links c.events.items names.Internal) none inside in
    let s : IsRelation made n (Complement n (Has within)) = counted w step in
    with_pairs s (λ a b. (
      (λ h. (h.0, h.1, (h.0, h.1, (λ i. h.2 ((w.pairs a b).1 (h.0, h.1, i)))))),
      (λ h. (h.0, h.1, (λ x. h.2.2 ((w.pairs a b).0 x).2))),
    ))
  where
    counted : IsRelation within n (Below n (Links c.events.items names.Internal))
        → IsRelation made within.count (Complement within.count (Has within))
        → IsRelation made n (Complement n (Has within))
    counted w r = rw w.count at r

-- a name that is none of the shared relations
pub nothing_is : {start : Relation} {n : ℕ} (c : Combination) (name : Predefined)
    → (name ≡ names.Identity → ⊥) → (name ≡ names.ProgramOrder → ⊥)
    → (name ≡ names.SameLocation → ⊥) → (name ≡ names.ProgramOrderSameLocation → ⊥)
    → (name ≡ names.Internal → ⊥) → (name ≡ names.External → ⊥)
    → (name ≡ names.AddressDependency → ⊥) → (name ≡ names.DataDependency → ⊥)
    → (name ≡ names.ControlDependency → ⊥) → (name ≡ names.ControlIsyncDependency → ⊥)
    → (name ≡ names.SyncOrder → ⊥) → (name ≡ names.LwsyncOrder → ⊥) → (name ≡ names.EieioOrder → ⊥)
    → (name ≡ names.IsyncOrder → ⊥) → IsRelation start n (λ a b. ⊥)
    → IsRelation start n (Below n (Fixed name n c))
nothing_is c names.Identity never _ _ _ _ _ _ _ _ _ _ _ _ _ none = absurd (never refl)
nothing_is c names.ProgramOrder _ never _ _ _ _ _ _ _ _ _ _ _ _ none = absurd (never refl)
nothing_is c names.SameLocation _ _ never _ _ _ _ _ _ _ _ _ _ _ none = absurd (never refl)
nothing_is c names.ProgramOrderSameLocation _ _ _ never _ _ _ _ _ _ _ _ _ _ none =
    absurd (never refl)
nothing_is c names.Internal _ _ _ _ never _ _ _ _ _ _ _ _ _ none = absurd (never refl)
nothing_is c names.External _ _ _ _ _ never _ _ _ _ _ _ _ _ none = absurd (never refl)
nothing_is c names.AddressDependency _ _ _ _ _ _ never _ _ _ _ _ _ _ none = absurd (never refl)
nothing_is c names.DataDependency _ _ _ _ _ _ _ never _ _ _ _ _ _ none = absurd (never refl)
nothing_is c names.ControlDependency _ _ _ _ _ _ _ _ never _ _ _ _ _ none = absurd (never refl)
nothing_is c names.ControlIsyncDependency _ _ _ _ _ _ _ _ _ never _ _ _ _ none = absurd (never refl)
nothing_is c names.SyncOrder _ _ _ _ _ _ _ _ _ _ never _ _ _ none = absurd (never refl)
nothing_is c names.LwsyncOrder _ _ _ _ _ _ _ _ _ _ _ never _ _ none = absurd (never refl)
nothing_is c names.EieioOrder _ _ _ _ _ _ _ _ _ _ _ _ never _ none = absurd (never refl)
nothing_is c names.IsyncOrder _ _ _ _ _ _ _ _ _ _ _ _ _ never none = absurd (never refl)
nothing_is c _ _ _ _ _ _ _ _ _ _ _ _ _ _ _ none =
    with_pairs none (λ a b. ((λ h. absurd h), (λ h. h.2)))
