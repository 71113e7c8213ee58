-- The names of a recursive group, as its own bodies see them in two models.
use Rattle.std.proofs.Common.{ℕ, ◌≡◌, ◌+◌, ◌<◌, ◌⊎◌, suc, List, [], ◌∷◌, length, Bool, true, false, Some, refl, ap, ◌∙◌, inl, inr, arith}
use Rattle.std.specs.Prelude.{bytes_eq}
use Rattle.binding_kinds.specs.declared.kinds.Kind.TheVariants.{OfRelation}
use Rattle.binding_kinds.specs.declared.scope.Binder.TheVariants as binders
use Rattle.binding_kinds.specs.declared.scope.Found.{Found}
use Rattle.binding_kinds.specs.Value.{Naming, Bound}
use Rattle.binding_kinds.specs.Kinds.{found}
use Rattle.binding_kinds.specs.Faults.{naming_at, with_own}

-- the name at that position of the group
abbrev pub own_found : ℕ → ℕ → ℕ → ℕ → Found
own_found from item at d =
    record {
      slot = from + d;
      kind = OfRelation;
      binder = binders.Bound (record { item = item; position = at + d });
    }

-- the group binds the name, at one position in both
pub record IsOwn (names others : List Naming) (item other at count : ℕ) (bs : List Bound)
    (x : List ℕ) : Type 0 where
  pub position : ℕ
  pub below : position < count
  pub left : found (with_own names item at bs) x ≡ Some (own_found (length names) item at position)
  pub right : found (with_own others other at bs) x
      ≡ Some (own_found (length others) other at position)

-- it does not
pub record IsOuterName (names others : List Naming) (item other at : ℕ) (bs : List Bound)
    (x : List ℕ) : Type 0 where
  pub left : found (with_own names item at bs) x ≡ found names x
  pub right : found (with_own others other at bs) x ≡ found others x

pub own_or_outer : (names others : List Naming) (item other at : ℕ) (bs : List Bound) (x : List ℕ)
    → IsOwn names others item other at (length bs) bs x
    ⊎ IsOuterName names others item other at bs x
own_or_outer names others item other at [] x = inr (record { left = refl; right = refl })
own_or_outer names others item other at (b ∷ bs) x =
    at_rest (own_or_outer (n ∷ names) (m ∷ others) item other (suc at) bs x)
  where
    n : Naming
    n = naming_at item at b OfRelation

    m : Naming
    m = naming_at other at b OfRelation

    moved : (from i d : ℕ) → own_found (suc from) i (suc at) d ≡ own_found from i at (suc d)
    moved from i d =
        let slot : suc from + d ≡ from + suc d = omega arith in
        let position : suc at + d ≡ at + suc d = omega arith in
        λ e. record {
          slot = slot e;
          kind = OfRelation;
          binder = binders.Bound (record { item = i; position = position e });
        }

    here : (from i : ℕ)
        → record {
          slot = from;
          kind = OfRelation;
          binder = binders.Bound (record { item = i; position = at });
        }
        ≡ own_found from i at 0
    here from i =
        let slot : from ≡ from + 0 = omega arith in
        let position : at ≡ at + 0 = omega arith in
        λ e. record {
          slot = slot e;
          kind = OfRelation;
          binder = binders.Bound (record { item = i; position = position e });
        }

    at_test : IsOuterName (n ∷ names) (m ∷ others) item other (suc at) bs x → (t : Bool)
        → bytes_eq b.name x ≡ t
        → IsOwn names others item other at (length (b ∷ bs)) (b ∷ bs) x
        ⊎ IsOuterName names others item other at (b ∷ bs) x
    at_test h true e = inl (record {
      position = 0;
      below = omega arith;
      left = h.left ∙ (rw e refl ∙ ap (λ (f : Found). Some f) (here (length names) item));
      right = h.right ∙ (rw e refl ∙ ap (λ (f : Found). Some f) (here (length others) other));
    })
    at_test h false e = inr (record { left = h.left ∙ rw e refl; right = h.right ∙ rw e refl })

    at_rest : IsOwn (n ∷ names) (m ∷ others) item other (suc at) (length bs) bs x
        ⊎ IsOuterName (n ∷ names) (m ∷ others) item other (suc at) bs x
        → IsOwn names others item other at (length (b ∷ bs)) (b ∷ bs) x
        ⊎ IsOuterName names others item other at (b ∷ bs) x
    at_rest (inl h) =
        let low = h.below in
        inl (record {
          position = suc h.position;
          below = omega (arith, low);
          left = h.left ∙ ap (λ (f : Found). Some f) (moved (length names) item h.position);
          right = h.right ∙ ap (λ (f : Found). Some f) (moved (length others) other h.position);
        })
    at_rest (inr h) = at_test h (bytes_eq b.name x) refl
