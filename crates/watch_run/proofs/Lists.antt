-- Lists with one element put at an index, and the first element that passes a test.
use Rattle.std.proofs.Common.{◌≡◌, ℕ, zero, suc, ◌+◌, ◌<◌, ◌≤◌, List, [], ◌∷◌, length, map, Bool, true, false, Some, refl, sym, ap, ◌∙◌, inl, inr, arith}
use Rattle.std.specs.Prelude.{slice_get, option_map, get_or, set, remove, take, drop, ◌||◌}
use Rattle.std.specs.List.{position_or_len, list_any}
use Rattle.std.proofs.lemmas.List.Folds.{list_any-append}
use Rattle.std.proofs.lemmas.Bool.{cases_Bool}
use Rattle.std.proofs.lemmas.Option.{same_Some}
use Rattle.bench_texts.specs.BenchTexts.{put_at, changed_at}

one_more : (n : ℕ) → 1 + n ≡ suc n
one_more n = omega arith

-- ---- an element put

pub put_same : {A : Type 0} (i : ℕ) (x : A) (xs : List A) → slice_get xs i ≡ Some x
    → put_at i x xs ≡ xs
put_same i x [] e = absurd cc
put_same zero x (y ∷ ys) e = ap (λ z. z ∷ ys) (sym (same_Some y x e))
put_same (suc i) x (y ∷ ys) e = ap (λ zs. y ∷ zs) (put_same i x ys e)

pub put_twice : {A : Type 0} (i : ℕ) (x y : A) (xs : List A) → i < length xs
    → put_at i y (put_at i x xs) ≡ put_at i y xs
put_twice i x y [] lt = absurd (omega (arith, lt))
put_twice zero x y (z ∷ zs) lt = refl
put_twice (suc i) x y (z ∷ zs) lt = ap (λ l. z ∷ l) (put_twice i x y zs (omega (arith, lt)))

-- an element changed is another one put
pub record IsPut {A : Type 0} (f : A → A) (i : ℕ) (xs : List A) : Type 0 where
  pub old : A
  pub there : slice_get xs i ≡ Some old
  pub is : changed_at i f xs ≡ put_at i (f old) xs

pub changed_is_put : {A : Type 0} (f : A → A) (i : ℕ) (xs : List A) → i < length xs → IsPut f i xs
changed_is_put f i [] lt = absurd (omega (arith, lt))
changed_is_put f zero (y ∷ ys) lt = record { old = y; there = refl; is = refl }
changed_is_put f (suc i) (y ∷ ys) lt =
    let more = changed_is_put f i ys (omega (arith, lt)) in
    record { old = more.old; there = more.there; is = ap (λ l. y ∷ l) more.is }

-- ---- the first element that passes

pub index_put : {A : Type 0} (p : A → Bool) (x : A) (xs : List A) → p x ≡ true
    → position_or_len p xs < length xs
    → position_or_len p (put_at (position_or_len p xs) x xs) ≡ position_or_len p xs
index_put p x [] passes lt = absurd (omega (arith, lt))
index_put p x (y ∷ ys) passes lt = elim (cases_Bool (p y)) [
  | inl t ↦ rw t (rw passes refl)
  | inr t ↦ (let inside : 1 + position_or_len p ys < suc (length ys) = rw t at lt in
      rw t (rw (one_more (position_or_len p ys)) (rw t (one_more _
      ∙ ap suc (index_put p x ys passes (omega (arith, inside)))))))
]

pub found_mapped : {A B : Type 0} (f : A → B) (p : B → Bool) (xs : List A)
    → slice_get (map f xs) (position_or_len p (map f xs))
    ≡ option_map f (slice_get xs (position_or_len (λ x. p (f x)) xs))
found_mapped f p [] = refl
found_mapped f p (x ∷ xs) = elim (cases_Bool (p (f x))) [
  | inl t ↦ rw t refl
  | inr t ↦ rw t (rw (one_more (position_or_len p (map f xs))) (rw
      (one_more (position_or_len (λ y. p (f y)) xs)) (found_mapped f p xs)))
]

another_first : {A : Type 0} (x y : A) (ys : List A) (n : ℕ)
    → slice_get (x ∷ ys) (1 + n) ≡ slice_get (y ∷ ys) (1 + n)
another_first x y ys n = rw (one_more n) refl

-- another element is put, or one is changed, and the first that passes another test stays
pub found_beside : {A : Type 0} (p q : A → Bool) (x : A) (xs : List A) → q x ≡ false
    → ((y : A) → p y ≡ true → q y ≡ false)
    → slice_get (put_at (position_or_len p xs) x xs)
    (position_or_len q (put_at (position_or_len p xs) x xs))
    ≡ slice_get xs (position_or_len q xs)
found_beside p q x [] fails apart = rw fails refl
found_beside p q x (y ∷ ys) fails apart = elim (cases_Bool (p y)) [
  | inl t ↦ rw t (rw fails (rw (apart y t)
      (another_first x y ys (position_or_len q ys))))
  | inr t ↦ rw t (rw (one_more (position_or_len p ys)) (elim (cases_Bool (q y)) [
    | inl u ↦ rw u refl
    | inr u ↦ rw u (rw
        (one_more (position_or_len q (put_at (position_or_len p ys) x ys)))
        (rw (one_more (position_or_len q ys)) (found_beside p q x ys fails apart)))
  ]))
]

pub found_unchanged : {A : Type 0} (p q : A → Bool) (f : A → A) (xs : List A)
    → ((y : A) → q (f y) ≡ q y) → ((y : A) → p y ≡ true → q y ≡ false)
    → slice_get (changed_at (position_or_len p xs) f xs)
    (position_or_len q (changed_at (position_or_len p xs) f xs))
    ≡ slice_get xs (position_or_len q xs)
found_unchanged p q f [] keeps apart = refl
found_unchanged p q f (y ∷ ys) keeps apart = elim (cases_Bool (p y)) [
  | inl t ↦ rw t (rw (keeps y) (rw (apart y t)
      (another_first (f y) y ys (position_or_len q ys))))
  | inr t ↦ rw t (rw (one_more (position_or_len p ys)) (elim (cases_Bool (q y)) [
    | inl u ↦ rw u refl
    | inr u ↦ rw u (rw
        (one_more (position_or_len q (changed_at (position_or_len p ys) f ys)))
        (rw (one_more (position_or_len q ys)) (found_unchanged p q f ys keeps apart)))
  ]))
]

-- ---- an element set

pub changed_set : {A : Type 0} (i : ℕ) (y : A) (xs : List A) → i < length xs
    → set xs i y ≡ changed_at i (λ x. y) xs
changed_set i y [] lt = absurd (omega (arith, lt))
changed_set zero y (x ∷ xs) lt = refl
changed_set (suc i) y (x ∷ xs) lt = ap (λ l. x ∷ l) (changed_set i y xs (omega (arith, lt)))

pub changed_past : {A : Type 0} (i : ℕ) (y : A) (xs : List A) → length xs ≤ i
    → xs ≡ changed_at i (λ x. y) xs
changed_past i y [] le = refl
changed_past zero y (x ∷ xs) le = absurd (omega (arith, le))
changed_past (suc i) y (x ∷ xs) le = ap (λ l. x ∷ l) (changed_past i y xs (omega (arith, le)))

-- what is there at an index, with any default
pub got_set : {A : Type 0} (i : ℕ) (x d e : A) (xs : List A) → i < length xs → x ≡ get_or xs i e
    → x ≡ get_or xs i d
got_set i x d e [] lt is = absurd (omega (arith, lt))
got_set zero x d e (y ∷ ys) lt is = is
got_set (suc i) x d e (y ∷ ys) lt is = got_set i x d e ys (omega (arith, lt)) is

pub got_past : {A : Type 0} (i : ℕ) (d : A) (xs : List A) → length xs ≤ i → d ≡ get_or xs i d
got_past i d [] le = refl
got_past zero d (x ∷ xs) le = absurd (omega (arith, le))
got_past (suc i) d (x ∷ xs) le = got_past i d xs (omega (arith, le))

-- what is there at an index, with a default
pub got_there : {A : Type 0} (i : ℕ) (x d : A) (xs : List A) → slice_get xs i ≡ Some x
    → get_or xs i d ≡ x
got_there i x d [] there = absurd cc
got_there zero x d (y ∷ ys) there = same_Some y x there
got_there (suc i) x d (y ∷ ys) there = got_there i x d ys there

-- and after it was changed
pub changed_there : {A : Type 0} (i : ℕ) (x d : A) (xs : List A) → slice_get xs i ≡ Some x
    → (i < length (changed_at i (λ y. x) xs)) × (get_or (changed_at i (λ y. x) xs) i d ≡ x)
changed_there i x d [] there = absurd cc
changed_there zero x d (y ∷ ys) there = (omega arith, refl)
changed_there (suc i) x d (y ∷ ys) there =
    let rest = changed_there i x d ys there in (omega (arith, rest.0), rest.1)

pub nothing_of : {A : Type 0} (xs : List A) → length xs ≡ 0 → xs ≡ []
nothing_of [] e = refl
nothing_of (x ∷ xs) e = absurd (omega (arith, e))

-- ---- an element left out

pub held_beside : {A : Type 0} (p : A → Bool) (xs : List A) (i : ℕ)
    → list_any p (remove xs i) ≡ (list_any p (take i xs) || list_any p (drop (suc i) xs))
held_beside p xs i = list_any-append p (take i xs) (drop (suc i) xs)
