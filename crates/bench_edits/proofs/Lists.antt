-- Lists in which no two elements have one key, and what is put into them or removed.
use Rattle.std.proofs.Common.{◌≡◌, ◌⊎◌, ℕ, zero, suc, inl, inr, List, [], ◌∷◌, ◌++◌, map, Some, None, slice_get, sym, ap, subst, ◌∙◌}
use Rattle.std.specs.List.{remove}
use Rattle.memo_core.specs.Step.{Has}
use Rattle.bench_texts.specs.BenchTexts.{put_at}
use Rattle.bench_slots.proofs.Lists.{has_append, has_behind}
use Rattle.bench_text_laws.specs.Orderly.{AreApart}

pub has_map : {A K : Type 0} (f : A → K) (xs : List A) (a : A) → Has xs a → Has (map f xs) (f a)
has_map f [] a h = absurd h
has_map f (x ∷ xs) a (inl e) = inl (ap f e)
has_map f (x ∷ xs) a (inr h) = inr (has_map f xs a h)

-- two elements of one key are one
pub one_of_key : {A K : Type 0} (f : A → K) (xs : List A) → AreApart (map f xs) → (a b : A)
    → Has xs a → Has xs b → f a ≡ f b → a ≡ b
one_of_key f [] apart a b ha hb e = absurd ha
one_of_key f (x ∷ xs) apart a b (inl p) (inl q) e = sym p ∙ q
one_of_key {A} {K} f (x ∷ xs) apart a b (inl p) (inr h) e =
    absurd (apart.0 (subst (λ (k : K). Has (map f xs) k) (sym (ap f p ∙ e)) (has_map f xs b h)))
one_of_key {A} {K} f (x ∷ xs) apart a b (inr h) (inl q) e =
    absurd (apart.0 (subst (λ (k : K). Has (map f xs) k) (sym (ap f q ∙ sym e)) (has_map f xs a h)))
one_of_key f (x ∷ xs) apart a b (inr h) (inr g) e = one_of_key f xs apart.1 a b h g e

pub has_at : {A : Type 0} (xs : List A) (i : ℕ) (a : A) → slice_get xs i ≡ Some a → Has xs a
has_at [] i a e = absurd (let f : None ≡ Some a = e in cc)
has_at (x ∷ xs) zero a e = inl (some_is e)
  where
    some_is : {A : Type 0} {a b : A} → Some a ≡ Some b → a ≡ b
    some_is e = cc
has_at (x ∷ xs) (suc i) a e = inr (has_at xs i a e)

-- what is put or was there
pub in_put : {A : Type 0} (at : ℕ) (x : A) (xs : List A) (b : A) → Has (put_at at x xs) b
    → (x ≡ b) ⊎ Has xs b
in_put zero x [] b (inl e) = inl e
in_put zero x [] b (inr h) = absurd h
in_put (suc at) x [] b (inl e) = inl e
in_put (suc at) x [] b (inr h) = absurd h
in_put zero x (y ∷ xs) b (inl e) = inl e
in_put zero x (y ∷ xs) b (inr h) = inr (inr h)
in_put (suc at) x (y ∷ xs) b (inl e) = inr (inl e)
in_put (suc at) x (y ∷ xs) b (inr h) =
    elim (in_put at x xs b h) [ inl e ↦ inl e | inr g ↦ inr (inr g) ]

-- what was there stays, or stood where another is put
pub stays_in_put : {A : Type 0} (at : ℕ) (x : A) (xs : List A) (a : A) → Has xs a
    → Has (put_at at x xs) a ⊎ (slice_get xs at ≡ Some a)
stays_in_put at x [] a h = absurd h
stays_in_put zero x (y ∷ xs) a (inl e) = inr (ap Some e)
stays_in_put zero x (y ∷ xs) a (inr h) = inl (inr h)
stays_in_put (suc at) x (y ∷ xs) a (inl e) = inl (inl e)
stays_in_put (suc at) x (y ∷ xs) a (inr h) =
    elim (stays_in_put at x xs a h) [ inl g ↦ inl (inr g) | inr e ↦ inr e ]

pub in_removed : {A : Type 0} (xs : List A) (at : ℕ) (x : A) → Has (remove xs at) x → Has xs x
in_removed [] zero x h = h
in_removed [] (suc at) x h = h
in_removed (y ∷ xs) zero x h = inr h
in_removed (y ∷ xs) (suc at) x (inl e) = inl e
in_removed (y ∷ xs) (suc at) x (inr h) = inr (in_removed xs at x h)

-- an element of the key of one that was there is the same, or was put in its place
pub kept_in_put : {A K : Type 0} (f : A → K) (at : ℕ) (x : A) (xs : List A) → AreApart (map f xs)
    → AreApart (map f (put_at at x xs)) → (a b : A) → Has xs a → Has (put_at at x xs) b → f a ≡ f b
    → (a ≡ b) ⊎ ((slice_get xs at ≡ Some a) × (x ≡ b))
kept_in_put f at x xs was is a b ha hb e = elim (in_put at x xs b hb) [
  | inr was_there ↦ inl (one_of_key f xs was a b ha was_there e)
  | inl is_put ↦ elim (stays_in_put at x xs a ha) [
    | inl stays ↦ inl (one_of_key f (put_at at x xs) is a b stays hb e)
    | inr stood ↦ inr (stood, is_put)
  ]
]

-- ---- two lists without equal elements

pub apart_left : {A : Type 0} (xs ys : List A) → AreApart (xs ++ ys) → AreApart xs
apart_left [] ys h = tt
apart_left (x ∷ xs) ys h = ((λ has. h.0 (has_append xs ys x has)), apart_left xs ys h.1)

pub apart_right : {A : Type 0} (xs ys : List A) → AreApart (xs ++ ys) → AreApart ys
apart_right [] ys h = h
apart_right (x ∷ xs) ys h = apart_right xs ys h.1

pub apart_cross : {A : Type 0} (xs ys : List A) (a : A) → AreApart (xs ++ ys) → Has xs a → Has ys a
    → ⊥
apart_cross [] ys a h left right = left
apart_cross {A} (x ∷ xs) ys a h (inl e) right =
    h.0 (subst (λ (b : A). Has (xs ++ ys) b) (sym e) (has_behind xs ys a right))
apart_cross (x ∷ xs) ys a h (inr left) right = apart_cross xs ys a h.1 left right
