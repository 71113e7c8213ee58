-- Cells of which one is settled.
use Rattle.std.proofs.Common.{◌≡◌, ℕ, zero, suc, ◌<◌, List, [], ◌∷◌, ◌++◌, length, Some, IsSome, refl, ap, arith, subst, slice_get}
use Rattle.std.specs.List.{AllByRecursion as Each}
use Rattle.desk_ledger.specs.Boards.{BoardCell, settled_with, with_outcome}

pub get_below : {A : Type 0} (xs : List A) (i : ℕ) → i < length xs
    → (x : A) × (slice_get xs i ≡ Some x)
get_below [] i lt = absurd (omega arith)
get_below (x ∷ xs) zero lt = (x, refl)
get_below (x ∷ xs) (suc i) lt = get_below xs i (omega arith)

pub below_get : {A : Type 0} (xs : List A) (i : ℕ) (x : A) → slice_get xs i ≡ Some x → i < length xs
below_get [] i x e = absurd cc
below_get (y ∷ xs) zero x e = omega arith
below_get (y ∷ xs) (suc i) x e = let lt = below_get xs i x e in omega arith

pub each_append : {A : Type 0} (P : A → Type 0) (xs ys : List A) → Each P xs → Each P ys
    → Each P (xs ++ ys)
each_append P [] ys a b = b
each_append P (x ∷ xs) ys a b = (a.0, each_append P xs ys a.1 b)

module _ {O : Type 0} where
  pub length_with : (cs : List (BoardCell O)) (i : ℕ) (o : O)
      → length (with_outcome i o cs) ≡ length cs
  length_with [] i o = refl
  length_with (c ∷ cs) zero o = refl
  length_with (c ∷ cs) (suc i) o = ap suc (length_with cs i o)

  pub settled_here : (cs : List (BoardCell O)) (i : ℕ) (o : O) (c : BoardCell O)
      → slice_get (with_outcome i o cs) i ≡ Some c → IsSome c.outcome
  settled_here [] i o c e = absurd cc
  settled_here (d ∷ cs) zero o c e =
      let same : settled_with o d ≡ c = cc in
      subst (λ (x : BoardCell O). IsSome x.outcome) same refl
  settled_here (d ∷ cs) (suc i) o c e = settled_here cs i o c e

  pub settled_kept : (S : List ℕ → List ℕ → Type 0) (cs : List (BoardCell O)) (i k : ℕ) (o : O)
      → ((c : BoardCell O) → slice_get cs k ≡ Some c → S c.test c.model → IsSome c.outcome)
      → (c : BoardCell O) → slice_get (with_outcome i o cs) k ≡ Some c → S c.test c.model
      → IsSome c.outcome
  settled_kept S [] i k o old c e s = old c e s
  settled_kept S (d ∷ cs) zero zero o old c e s = settled_here (d ∷ cs) zero o c e
  settled_kept S (d ∷ cs) zero (suc k) o old c e s = old c e s
  settled_kept S (d ∷ cs) (suc i) zero o old c e s = old c e s
  settled_kept S (d ∷ cs) (suc i) (suc k) o old c e s = settled_kept S cs i k o old c e s
