-- Elements of lists: of a list with one more, of one that is mapped, and of lists after one
-- another.
use Rattle.std.proofs.Common.{ℕ, zero, suc, ◌≡◌, ◌<◌, ◌+◌, List, [], ◌∷◌, ◌++◌, map, length, get_or, Some, slice_get, refl, ap, sym, subst, ◌∙◌, ◌⊎◌, inl, inr, arith, Contains}
use Rattle.std.specs.List.{flat_map}
use Rattle.std.proofs.lemmas.List.Elements.{Contains-append_left, Contains-append_right, Contains-append_cases}

pub member_cases : {X : Type 0} (x : X) (xs : List X) (z : X) → Contains (x ∷ xs) z
    → (x ≡ z) ⊎ Contains xs z
member_cases {X} x xs z h = go h.0 h.1 h.2
  where
    go : (k : ℕ) → k < length (x ∷ xs) → get_or (x ∷ xs) k z ≡ z → (x ≡ z) ⊎ Contains xs z
    go zero lt e = inl e
    go (suc k) lt e = inr (k, omega (arith, lt), e)

pub member_later : {X : Type 0} (x : X) (xs : List X) (z : X) → Contains xs z → Contains (x ∷ xs) z
member_later x xs z h = let lt : h.0 < length xs = h.1 in (suc h.0, omega (arith, lt), h.2)

pub member_first : {X : Type 0} (x : X) (xs : List X) → Contains (x ∷ xs) x
member_first x xs = (0, omega arith, refl)

pub no_member : {X : Type 0} (z : X) → Contains [] z → ⊥
no_member z h = let lt : h.0 < 0 = h.1 in absurd (omega (arith, lt))

-- elements of a list that is mapped
pub mapped : {X Y : Type 0} (f : X → Y) (xs : List X) (y : Y) → Contains (map f xs) y
    → (x : X) × Contains xs x × (f x ≡ y)
mapped f [] y c = absurd (no_member y c)
mapped f (x ∷ xs) y c = elim (member_cases (f x) (map f xs) y c) [
  | inl e ↦ (x, member_first x xs, e)
  | inr d ↦ let (z, there, is) = mapped f xs y d in (z, member_later x xs z there, is)
]

pub mapped_there : {X Y : Type 0} (f : X → Y) (xs : List X) (x : X) → Contains xs x
    → Contains (map f xs) (f x)
mapped_there f [] x c = absurd (no_member x c)
mapped_there {Y = Y} f (y ∷ xs) x c = elim (member_cases y xs x c) [
  | inl e ↦ subst (λ (z : Y). Contains (f y ∷ map f xs) z) (ap f e) (member_first (f y) (map f xs))
  | inr d ↦ member_later (f y) (map f xs) (f x) (mapped_there f xs x d)
]

-- and of lists after one another
pub joined : {X Y : Type 0} (f : X → List Y) (xs : List X) (y : Y) → Contains (flat_map f xs) y
    → (x : X) × Contains xs x × Contains (f x) y
joined f [] y c = absurd (no_member y c)
joined f (x ∷ xs) y c = elim (Contains-append_cases (f x) (flat_map f xs) y c) [
  | inl d ↦ (x, member_first x xs, d)
  | inr d ↦ let (z, there, is) = joined f xs y d in (z, member_later x xs z there, is)
]

pub joined_there : {X Y : Type 0} (f : X → List Y) (xs : List X) (x : X) (y : Y) → Contains xs x
    → Contains (f x) y → Contains (flat_map f xs) y
joined_there f [] x y c d = absurd (no_member x c)
joined_there {Y = Y} f (z ∷ xs) x y c d = elim (member_cases z xs x c) [
  | inl e ↦ Contains-append_left (f z) (flat_map f xs) y
      (subst (λ (l : List Y). Contains l y) (sym (ap f e)) d)
  | inr h ↦ Contains-append_right (f z) (flat_map f xs) y (joined_there f xs x y h d)
]

-- what stands at an index of two lists after one another
pub behind_first : {X : Type 0} (xs ys : List X) (k : ℕ)
    → slice_get (xs ++ ys) (length xs + k) ≡ slice_get ys k
behind_first [] ys k = let z : 0 + k ≡ k = omega arith in ap (λ (n : ℕ). slice_get ys n) z
behind_first (x ∷ xs) ys k =
    let z : suc (length xs) + k ≡ suc (length xs + k) = omega arith in
    ap (λ (n : ℕ). slice_get (x ∷ (xs ++ ys)) n) z ∙ behind_first xs ys k

pub in_first : {X : Type 0} (xs ys : List X) (k : ℕ) (x : X) → slice_get xs k ≡ Some x
    → slice_get (xs ++ ys) k ≡ Some x
in_first [] ys k x h = absurd cc
in_first (y ∷ xs) ys zero x h = h
in_first (y ∷ xs) ys (suc k) x h = in_first xs ys k x h

pub within_first : {X : Type 0} (xs ys : List X) (k : ℕ) → k < length xs
    → slice_get (xs ++ ys) k ≡ slice_get xs k
within_first [] ys k lt = absurd (omega (arith, lt))
within_first (x ∷ xs) ys zero lt = refl
within_first (x ∷ xs) ys (suc k) lt = within_first xs ys k (omega (arith, lt))
