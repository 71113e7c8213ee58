-- What holds of each element of a list, and which elements it has.
use Rattle.std.proofs.Common.{ℕ, ◌≡◌, ◌<◌, zero, suc, List, [], ◌∷◌, ◌++◌, length, map, reverse, Contains, refl, ap, subst, inl, inr, arith}
use Rattle.std.specs.Prelude.{slice_index_or}
use Rattle.std.specs.List.{AllByRecursion as Each}
use Rattle.std.proofs.lemmas.List.{reverse-append}
use Rattle.memo_core.specs.Step.{Has}

pub each_append : {X : Type 0} (P : X → Type 0) (xs ys : List X) → Each P xs → Each P ys
    → Each P (xs ++ ys)
each_append P [] ys h g = g
each_append P (x ∷ xs) ys h g = (h.0, each_append P xs ys h.1 g)

pub each_reverse : {X : Type 0} (P : X → Type 0) (xs : List X) → Each P xs → Each P (reverse xs)
each_reverse P [] h = tt
each_reverse P (x ∷ xs) h =
    rw (reverse-append (x ∷ []) xs) (each_append P (reverse xs) (x ∷ []) (each_reverse P xs h.1)
    (h.0, tt))

pub each_map : {X Y : Type 0} (f : X → Y) (P : Y → Type 0) (xs : List X) → Each (λ x. P (f x)) xs
    → Each P (map f xs)
each_map f P [] h = tt
each_map f P (x ∷ xs) h = (h.0, each_map f P xs h.1)

pub each_to : {X : Type 0} (P Q : X → Type 0) → ((x : X) → P x → Q x) → (xs : List X) → Each P xs
    → Each Q xs
each_to P Q f [] h = tt
each_to P Q f (x ∷ xs) h = (f x h.0, each_to P Q f xs h.1)

pub has_append : {X : Type 0} (xs ys : List X) (x : X) → Has xs x → Has (xs ++ ys) x
has_append [] ys x h = absurd h
has_append (z ∷ xs) ys x (inl e) = inl e
has_append (z ∷ xs) ys x (inr h) = inr (has_append xs ys x h)

pub has_behind : {X : Type 0} (xs ys : List X) (x : X) → Has ys x → Has (xs ++ ys) x
has_behind [] ys x h = h
has_behind (z ∷ xs) ys x h = inr (has_behind xs ys x h)

pub has_reverse : {X : Type 0} (xs : List X) (x : X) → Has xs x → Has (reverse xs) x
has_reverse [] x h = absurd h
has_reverse (z ∷ xs) x (inl e) =
    rw (reverse-append (z ∷ []) xs) (has_behind (reverse xs) (z ∷ []) x (inl e))
has_reverse (z ∷ xs) x (inr h) =
    rw (reverse-append (z ∷ []) xs) (has_append (reverse xs) (z ∷ []) x (has_reverse xs x h))

pub has_map : {X Y : Type 0} (f : X → Y) (xs : List X) (x : X) → Has xs x → Has (map f xs) (f x)
has_map f [] x h = absurd h
has_map f (z ∷ xs) x (inl e) = inl (ap f e)
has_map f (z ∷ xs) x (inr h) = inr (has_map f xs x h)

-- ---- elements by index

pub has_contains : (xs : List ℕ) (x : ℕ) → Has xs x → Contains xs x
has_contains [] x h = absurd h
has_contains (y ∷ xs) x (inl e) = (0, omega arith, e)
has_contains (y ∷ xs) x (inr h) = let c = has_contains xs x h in (suc c.0, omega (arith, c.1), c.2)

pub contains_has : (xs : List ℕ) (x : ℕ) → Contains xs x → Has xs x
contains_has xs x c = at_index xs c.0 c.1 c.2
  where
    at_index : (xs : List ℕ) (k : ℕ) → k < length xs → slice_index_or xs k x ≡ x → Has xs x
    at_index [] k lt e = absurd (omega (arith, lt))
    at_index (y ∷ xs) zero lt e = inl e
    at_index (y ∷ xs) (suc k) lt e = inr (at_index xs k (omega (arith, lt)) e)

pub each_has : {X : Type 0} (P : X → Type 0) (xs : List X) → Each P xs → (x : X) → Has xs x → P x
each_has P [] h x i = absurd i
each_has P (y ∷ xs) h x (inl e) = subst P e h.0
each_has P (y ∷ xs) h x (inr i) = each_has P xs h.1 x i

pub each_from_has : {X : Type 0} (P : X → Type 0) (xs : List X) → ((x : X) → Has xs x → P x)
    → Each P xs
each_from_has P [] h = tt
each_from_has P (x ∷ xs) h = (h x (inl refl), each_from_has P xs (λ y i. h y (inr i)))
