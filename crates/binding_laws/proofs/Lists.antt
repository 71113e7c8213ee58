-- What holds of each element of a list, and elements of two lists by their positions.
use Rattle.std.proofs.Common.{ℕ, ◌≡◌, ◌<◌, zero, suc, List, [], ◌∷◌, ◌++◌, length, map, reverse, Contains, ◌⊎◌, refl, subst, sym, inl, inr, arith}
use Rattle.std.specs.Prelude.{slice_index_or}
use Rattle.std.specs.List.{AllByRecursion as Each}
use Rattle.std.proofs.lemmas.List.{reverse-append, reverse-reverse}
use mathlib.Core.List.{nil≢cons, head-eq_of_cons-eq, tail-eq_of_cons-eq}

-- ---- each element

each_append : {X : Type 0} (P : X → Type 0) (xs ys : List X) → Each P xs → Each P ys
    → Each P (xs ++ ys)
each_append P [] ys h g = g
each_append P (x ∷ xs) ys h g = (h.0, each_append P xs ys h.1 g)

pub each_reverse : {X : Type 0} (P : X → Type 0) (xs : List X) → Each P xs → Each P (reverse xs)
each_reverse P [] h = tt
each_reverse P (x ∷ xs) h =
    rw (reverse-append (x ∷ []) xs) (each_append P (reverse xs) (x ∷ []) (each_reverse P xs h.1)
    (h.0, tt))

pub each_reversed : {X : Type 0} (P : X → Type 0) (xs : List X) → Each P (reverse xs) → Each P xs
each_reversed P xs h = subst (Each P) (reverse-reverse xs) (each_reverse P (reverse xs) h)

pub each_map : {X Y : Type 0} (f : X → Y) (P : Y → Type 0) (xs : List X) → Each (λ x. P (f x)) xs
    → Each P (map f xs)
each_map f P [] h = tt
each_map f P (x ∷ xs) h = (h.0, each_map f P xs h.1)

pub each_mapped : {X Y : Type 0} (f : X → Y) (P : Y → Type 0) (xs : List X) → Each P (map f xs)
    → Each (λ x. P (f x)) xs
each_mapped f P [] h = tt
each_mapped f P (x ∷ xs) h = (h.0, each_mapped f P xs h.1)

pub each_to : {X : Type 0} (P Q : X → Type 0) → ((x : X) → P x → Q x) → (xs : List X) → Each P xs
    → Each Q xs
each_to P Q f [] h = tt
each_to P Q f (x ∷ xs) h = (f x h.0, each_to P Q f xs h.1)

-- ---- elements

pub contains_here : {X : Type 0} (x : X) (xs : List X) → Contains (x ∷ xs) x
contains_here x xs = (0, omega arith, refl)

pub contains_later : {X : Type 0} (y : X) (xs : List X) (x : X) → Contains xs x
    → Contains (y ∷ xs) x
contains_later y xs x h = (suc h.0, omega (arith, h.1), h.2)

pub contains_one_of : {X : Type 0} (y : X) (ys : List X) (x : X) → Contains (y ∷ ys) x
    → (y ≡ x) ⊎ Contains ys x
contains_one_of y ys x h = at_index h.0 h.1 h.2
  where
    at_index : (k : ℕ) → k < length (y ∷ ys) → slice_index_or (y ∷ ys) k x ≡ x
        → (y ≡ x) ⊎ Contains ys x
    at_index zero lt e = inl e
    at_index (suc k) lt e = inr (k, omega (arith, lt), e)

pub contains_none : {X : Type 0} (x : X) → Contains [] x → ⊥
contains_none x h = omega (arith, h.1)

pub contains_left : {X : Type 0} (xs ys : List X) (x : X) → Contains xs x → Contains (xs ++ ys) x
contains_left [] ys x h = absurd (contains_none x h)
contains_left (y ∷ xs) ys x h = at_one (λ g. contains_left xs ys x g) (contains_one_of y xs x h)
  where
    at_one : (Contains xs x → Contains (xs ++ ys) x) → (y ≡ x) ⊎ Contains xs x
        → Contains (y ∷ xs ++ ys) x
    at_one rest (inl e) =
        subst (λ z. Contains (z ∷ xs ++ ys) x) (sym e) (contains_here x (xs ++ ys))
    at_one rest (inr g) = contains_later y (xs ++ ys) x (rest g)

pub contains_right : {X : Type 0} (xs ys : List X) (x : X) → Contains ys x → Contains (xs ++ ys) x
contains_right [] ys x h = h
contains_right (y ∷ xs) ys x h = contains_later y (xs ++ ys) x (contains_right xs ys x h)

pub contains_either : {X : Type 0} (xs ys : List X) (x : X) → Contains (xs ++ ys) x
    → Contains xs x ⊎ Contains ys x
contains_either [] ys x h = inr h
contains_either (y ∷ xs) ys x h =
    at_one (λ g. contains_either xs ys x g) (contains_one_of y (xs ++ ys) x h)
  where
    at_one : (Contains (xs ++ ys) x → Contains xs x ⊎ Contains ys x)
        → (y ≡ x) ⊎ Contains (xs ++ ys) x → Contains (y ∷ xs) x ⊎ Contains ys x
    at_one rest (inl e) = inl (subst (λ z. Contains (z ∷ xs) x) (sym e) (contains_here x xs))
    at_one rest (inr g) = elim (rest g) [
      | inl a ↦ inl (contains_later y xs x a)
      | inr b ↦ inr b
    ]

pub contains_map : {X Y : Type 0} (f : X → Y) (xs : List X) (x : X) → Contains xs x
    → Contains (map f xs) (f x)
contains_map f [] x h = absurd (contains_none x h)
contains_map f (y ∷ xs) x h = at_one (λ g. contains_map f xs x g) (contains_one_of y xs x h)
  where
    at_one : (Contains xs x → Contains (map f xs) (f x)) → (y ≡ x) ⊎ Contains xs x
        → Contains (f y ∷ map f xs) (f x)
    at_one rest (inl e) =
        subst (λ z. Contains (f z ∷ map f xs) (f x)) (sym e) (contains_here (f x) (map f xs))
    at_one rest (inr g) = contains_later (f y) (map f xs) (f x) (rest g)

pub contains_mapped : {X Y : Type 0} (f : X → Y) (xs : List X) (y : Y) → Contains (map f xs) y
    → (x : X) × Contains xs x × (f x ≡ y)
contains_mapped f [] y h = absurd (contains_none y h)
contains_mapped f (z ∷ xs) y h =
    at_one (λ g. contains_mapped f xs y g) (contains_one_of (f z) (map f xs) y h)
  where
    at_one : (Contains (map f xs) y → (x : _) × Contains xs x × (f x ≡ y))
        → (f z ≡ y) ⊎ Contains (map f xs) y → (x : _) × Contains (z ∷ xs) x × (f x ≡ y)
    at_one rest (inl e) = (z, contains_here z xs, e)
    at_one rest (inr g) = let r = rest g in (r.0, contains_later z xs r.0 r.1, r.2)

-- ---- elements of two lists by their positions

abbrev pub IsSamePair : {X : Type 0} → X × X → X × X → Type 0
IsSamePair x y = x ≡ y

abbrev pub pairs_of : {X : Type 0} → List X → List X → List (X × X)
pairs_of [] ys = []
pairs_of (x ∷ xs) [] = []
pairs_of (x ∷ xs) (y ∷ ys) = (x, y) ∷ pairs_of xs ys

module _ {X Z : Type 0} (f g : X → Z) where
  -- the element of the other list at the position of this one
  pub record HasPartner (xs ys : List X) (P : X → Type 0) (x : X) : Type 0 where
    pub other : X
    pub both : Contains (pairs_of xs ys) (x, other)
    pub same : f x ≡ g other
    pub holds : P other

  pub partners : (P : X → Type 0) (xs ys : List X) → map f xs ≡ map g ys → Each P ys
      → Each (HasPartner xs ys P) xs
  partners P [] ys e h = tt
  partners P (x ∷ xs) [] e h = absurd (nil≢cons (sym e))
  partners P (x ∷ xs) (y ∷ ys) e h = (
    record { other = y; both = contains_here (x, y) (pairs_of xs ys); same = head-eq_of_cons-eq e; holds = h.0 },
    each_to (HasPartner xs ys P) (HasPartner (x ∷ xs) (y ∷ ys) P)
        (λ z p. record {
          other = p.other;
          both = contains_later (x, y) (pairs_of xs ys) (z, p.other) p.both;
          same = p.same;
          holds = p.holds;
        }) xs
        (partners P xs ys (tail-eq_of_cons-eq e) h.1),
  )

  -- two elements at one position
  pub record ArePartners (P Q : X → Type 0) (x y : X) : Type 0 where
    pub same : f x ≡ g y
    pub left : P x
    pub right : Q y

  pub partners_are : (P Q : X → Type 0) (xs ys : List X) → map f xs ≡ map g ys → Each P xs
      → Each Q ys → (x y : X) → Contains (pairs_of xs ys) (x, y) → ArePartners P Q x y
  partners_are P Q [] ys e h k x y c = absurd (contains_none (x, y) c)
  partners_are P Q (z ∷ xs) [] e h k x y c = absurd (contains_none (x, y) c)
  partners_are P Q (z ∷ xs) (w ∷ ys) e h k x y c =
      at_one (λ d. partners_are P Q xs ys (tail-eq_of_cons-eq e) h.1 k.1 x y d)
      (contains_one_of (z, w) (pairs_of xs ys) (x, y) c)
    where
      at_one : (Contains (pairs_of xs ys) (x, y) → ArePartners P Q x y)
          → IsSamePair (z, w) (x, y) ⊎ Contains (pairs_of xs ys) (x, y) → ArePartners P Q x y
      at_one rest (inl s) =
          subst (λ p. ArePartners P Q p.0 p.1) s (record {
            same = head-eq_of_cons-eq e;
            left = h.0;
            right = k.0;
          })
      at_one rest (inr d) = rest d
