-- Laws of the orders of stores.
use Rattle.std.proofs.Common.{ℕ, ◌≡◌, ◌+◌, List, [], ◌∷◌, ◌++◌, map, replicate, Bool, true, false, ◌||◌, nat_eq, refl, sym, subst, arith}
use Rattle.std.specs.List.{flat_map}
use Rattle.std.proofs.lemmas.Bool.Decides.{nat_tests}
use Rattle.std.proofs.lemmas.List.{replicate_more}
use Rattle.std.proofs.lemmas.List.Folds.{list_any-append}
use Rattle.std.proofs.lemmas.Bool.{or_parts, or_from}
use Rattle.store_orders.specs.Lists.{tuples, IsFiltered, none, kept, left}
use Rattle.store_orders.specs.Events.{has_store, AreDistinct}
use Rattle.store_orders.specs.Orders.{with_new}
use Rattle.store_orders.proofs.Filters.{IsFiltered-stages, none_of_map, tuples_more}

eq_swap : (a b : ℕ) → nat_eq a b ≡ false → nat_eq b a ≡ false
eq_swap a b h = grind (arith, nat_tests)

pub has_store-append : (t : List ℕ) (s x : ℕ)
    → has_store (t ++ s ∷ []) x ≡ (has_store t x || (nat_eq s x || false))
has_store-append t s x = list_any-append (λ y. nat_eq y x) t (s ∷ [])

lacks_both : (t : List ℕ) (s x : ℕ) → has_store (t ++ s ∷ []) x ≡ false
    → (has_store t x ≡ false) × (nat_eq s x ≡ false)
lacks_both t s x h =
    let e : (has_store t x || (nat_eq s x || false)) ≡ false = rw (has_store-append t s x) at h in
    let p : (has_store t x ≡ false) × ((nat_eq s x || false) ≡ false) = or_parts _ _ e in
    (p.0, (or_parts _ _ p.1).0)

lacks_more : (t : List ℕ) (s x : ℕ) → has_store t x ≡ false → nat_eq s x ≡ false
    → has_store (t ++ s ∷ []) x ≡ false
lacks_more t s x h k =
    let F : Bool → Type 0 = λ b. b ≡ false in
    subst F (sym (has_store-append t s x)) (or_from (has_store t x) (nat_eq s x || false) h
    (or_from (nat_eq s x) false k refl))

distinct_front : (t : List ℕ) (s : ℕ) → AreDistinct (t ++ s ∷ [])
    → AreDistinct t × (has_store t s ≡ false)
distinct_front [] s h = (tt, refl)
distinct_front (x ∷ xs) s h =
    let rest = distinct_front xs s h.1 in
    let first = lacks_both xs s x h.0 in
    ((first.0, rest.0), or_from (nat_eq x s) (has_store xs s) (eq_swap s x first.1) rest.1)

distinct_more : (t : List ℕ) (s : ℕ) → AreDistinct t → has_store t s ≡ false
    → AreDistinct (t ++ s ∷ [])
distinct_more [] s d h = (refl, tt)
distinct_more (x ∷ xs) s d h =
    let p : (nat_eq x s ≡ false) × (has_store xs s ≡ false) = or_parts (nat_eq x s) (has_store xs s) h in
    (lacks_more xs s x d.0 (eq_swap x s p.0), distinct_more xs s d.1 p.1)

-- a further store of those that may come next
next_store : (t : List ℕ) (s : ℕ) (ss : List ℕ) (b : Bool) → has_store t s ≡ b → AreDistinct t
    → IsFiltered AreDistinct (map (λ x. t ++ x ∷ []) ss) (with_new ss t)
    → IsFiltered AreDistinct (map (λ x. t ++ x ∷ []) (s ∷ ss)) (with_new (s ∷ ss) t)
next_store t s ss true e d rest =
    rw e (left (λ h. let k = (distinct_front t s h).1 in absurd (cc)) rest)
next_store t s ss false e d rest = rw e (kept (distinct_more t s d e) rest)

new_ones : (t : List ℕ) → AreDistinct t → (ss : List ℕ)
    → IsFiltered AreDistinct (map (λ x. t ++ x ∷ []) ss) (with_new ss t)
new_ones t d [] = none
new_ones t d (s ∷ ss) = next_store t s ss (has_store t s) refl d (new_ones t d ss)

-- one index more
pub orders_more : (first : ℕ) (others : List ℕ) (i : ℕ) (prefixes next : List (List ℕ))
    → IsFiltered AreDistinct (tuples [] ((first ∷ []) ∷ replicate i others)) prefixes
    → next ≡ flat_map (with_new others) prefixes
    → IsFiltered AreDistinct (tuples [] ((first ∷ []) ∷ replicate (i + 1) others)) next
orders_more first others i prefixes next before e =
    let stages : IsFiltered AreDistinct (flat_map (λ t. map (λ x. t ++ x ∷ []) others) (tuples [] ((first ∷ []) ∷ replicate i others))) (flat_map (with_new others) prefixes) =
    IsFiltered-stages AreDistinct AreDistinct (λ t. map (λ x. t ++ x ∷ []) others) (with_new others)
    (λ t no. none_of_map AreDistinct (λ x. t ++ x ∷ []) (λ x h. no (distinct_front t x h).0) others)
    (λ t d. new_ones t d others)
    (tuples [] ((first ∷ []) ∷ replicate i others)) prefixes before in
    let Next : List (List ℕ) → Type 0 = λ ys. IsFiltered AreDistinct (flat_map (λ t. map (λ x. t ++ x ∷ []) others) (tuples [] ((first ∷ []) ∷ replicate i others))) ys in
    let All : List (List ℕ) → Type 0 = λ xs. IsFiltered AreDistinct xs next in
    let Choices : List (List ℕ) → Type 0 = λ cs. IsFiltered AreDistinct (tuples [] ((first ∷ []) ∷ cs)) next in
    subst Choices (replicate_more i others) (subst All
    (sym (tuples_more ((first ∷ []) ∷ replicate i others) others []))
    (subst Next (sym e) stages))
