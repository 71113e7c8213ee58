-- Lists with one element changed keep their keys apart.
use Rattle.std.proofs.Common.{ℕ, zero, suc, ◌+◌, ◌<◌, ◌≤◌, ◌≡◌, ◌≢◌, ◌⊎◌, inl, inr, Bool, true, false, List, [], ◌∷◌, ◌++◌, length, map, slice_index_or, refl, sym, ap, subst, ◌∙◌, arith}
use Rattle.std.specs.List.{flat_map, position_or_len, insert, remove}
use Rattle.std.proofs.lemmas.Bool.{cases_Bool}
use Rattle.memo_core.specs.Step.{Has}
use Rattle.bench_texts.specs.BenchTexts.{put_at, changed_at}
use Rattle.bench_text_laws.specs.Orderly.{AreApart}

one_more : (n : ℕ) → 1 + n ≡ suc n
one_more n = omega arith

-- ---- an element put

-- what is among the keys after a put was there, or is the key that is put
pub has_put : {A K : Type 0} (f : A → K) (i : ℕ) (y : A) (xs : List A) (k : K)
    → Has (map f (put_at i y xs)) k → Has (map f xs) k ⊎ (f y ≡ k)
has_put f zero y [] k h = elim h [ inl e ↦ inr e | inr n ↦ absurd n ]
has_put f (suc i) y [] k h = elim h [ inl e ↦ inr e | inr n ↦ absurd n ]
has_put f zero y (x ∷ xs) k h = elim h [ inl e ↦ inr e | inr n ↦ inl (inr n) ]
has_put f (suc i) y (x ∷ xs) k h = elim h [
  | inl e ↦ inl (inl e)
  | inr n ↦ elim (has_put f i y xs k n) [ inl m ↦ inl (inr m) | inr e ↦ inr e ]
]

-- the key is put at the index of the first that has it, or at the end
pub apart_put : {A K : Type 0} (f : A → K) (p : A → Bool) (k : K)
    (same : (x : A) → p x ≡ true → f x ≡ k) (other : (x : A) → p x ≡ false → f x ≢ k) (y : A)
    (xs : List A) → f y ≡ k → AreApart (map f xs)
    → AreApart (map f (put_at (position_or_len p xs) y xs))
apart_put f p k same other y [] e h = ((λ n. n), tt)
apart_put f p k same other y (x ∷ xs) e h = elim (cases_Bool (p x)) [
  | inl t ↦ rw t (subst (λ n. (Has (map f xs) n → ⊥) × AreApart (map f xs)) (same x t ∙ sym e) h)
  | inr t ↦ rw t (rw (one_more (position_or_len p xs)) (
    (λ n. elim (has_put f (position_or_len p xs) y xs (f x) n)
        [ inl m ↦ h.0 m | inr is ↦ other x t (sym is ∙ e) ]),
    apart_put f p k same other y xs e h.1,
  ))
]

-- where one that has the key is there, the keys stay what they are
pub keys_put : {A K : Type 0} (f : A → K) (p : A → Bool) (k : K)
    (same : (x : A) → p x ≡ true → f x ≡ k) (y : A) (xs : List A) → f y ≡ k
    → position_or_len p xs < length xs → map f (put_at (position_or_len p xs) y xs) ≡ map f xs
keys_put f p k same y [] e h = absurd (omega (arith, h))
keys_put f p k same y (x ∷ xs) e h = elim (cases_Bool (p x)) [
  | inl t ↦ rw t (ap (λ n. n ∷ map f xs) (e ∙ sym (same x t)))
  | inr t ↦ (let lt : 1 + position_or_len p xs < suc (length xs) = rw t at h in
      rw t (rw (one_more (position_or_len p xs)) (ap (λ ns. f x ∷ ns)
      (keys_put f p k same y xs e (omega arith)))))
]

-- ---- an element changed

pub keys_changed : {A K : Type 0} (f : A → K) (g : A → A) → ((x : A) → f (g x) ≡ f x)
    → (i : ℕ) (xs : List A) → map f (changed_at i g xs) ≡ map f xs
keys_changed f g e i [] = refl
keys_changed f g e zero (x ∷ xs) = ap (λ k. k ∷ map f xs) (e x)
keys_changed f g e (suc i) (x ∷ xs) = ap (λ ks. f x ∷ ks) (keys_changed f g e i xs)

-- ---- an element removed

pub has_removed : {A : Type 0} (xs : List A) (i : ℕ) (x : A) → Has (remove xs i) x → Has xs x
has_removed [] zero x h = absurd h
has_removed [] (suc i) x h = absurd h
has_removed (y ∷ ys) zero x h = inr h
has_removed (y ∷ ys) (suc i) x h = elim h [ inl e ↦ inl e | inr n ↦ inr (has_removed ys i x n) ]

pub apart_removed : {A : Type 0} (xs : List A) (i : ℕ) → AreApart xs → AreApart (remove xs i)
apart_removed [] zero h = tt
apart_removed [] (suc i) h = tt
apart_removed (y ∷ ys) zero h = h.1
apart_removed (y ∷ ys) (suc i) h = ((λ n. h.0 (has_removed ys i y n)), apart_removed ys i h.1)

-- ---- an element inserted

pub has_inserted : {A : Type 0} (xs : List A) (i : ℕ) (y x : A) → Has (insert xs i y) x
    → Has xs x ⊎ (y ≡ x)
has_inserted [] zero y x h = elim h [ inl e ↦ inr e | inr n ↦ absurd n ]
has_inserted [] (suc i) y x h = elim h [ inl e ↦ inr e | inr n ↦ absurd n ]
has_inserted (z ∷ zs) zero y x h = elim h [ inl e ↦ inr e | inr n ↦ inl n ]
has_inserted (z ∷ zs) (suc i) y x h = elim h [
  | inl e ↦ inl (inl e)
  | inr n ↦ elim (has_inserted zs i y x n) [ inl m ↦ inl (inr m) | inr e ↦ inr e ]
]

pub apart_inserted : {A : Type 0} (xs : List A) (i : ℕ) (y : A) → (Has xs y → ⊥) → AreApart xs
    → AreApart (insert xs i y)
apart_inserted [] zero y free h = ((λ n. n), tt)
apart_inserted [] (suc i) y free h = ((λ n. n), tt)
apart_inserted (z ∷ zs) zero y free h = (free, h)
apart_inserted (z ∷ zs) (suc i) y free h = (
  (λ n. elim (has_inserted zs i y z n) [ inl m ↦ h.0 m | inr e ↦ free (inl (sym e)) ]),
  apart_inserted zs i y (λ m. free (inr m)) h.1,
)

pub map-inserted : {A K : Type 0} (f : A → K) (xs : List A) (i : ℕ) (y : A)
    → map f (insert xs i y) ≡ insert (map f xs) i (f y)
map-inserted f [] zero y = refl
map-inserted f [] (suc i) y = refl
map-inserted f (x ∷ xs) zero y = refl
map-inserted f (x ∷ xs) (suc i) y = ap (λ ks. f x ∷ ks) (map-inserted f xs i y)

-- ---- two lists

pub has_append : {A : Type 0} (xs ys : List A) (x : A) → Has (xs ++ ys) x → Has xs x ⊎ Has ys x
has_append [] ys x h = inr h
has_append (z ∷ zs) ys x h = elim h [
  | inl e ↦ inl (inl e)
  | inr n ↦ elim (has_append zs ys x n) [ inl m ↦ inl (inr m) | inr m ↦ inr m ]
]

pub has_left : {A : Type 0} (xs ys : List A) (x : A) → Has xs x → Has (xs ++ ys) x
has_left [] ys x h = absurd h
has_left (z ∷ zs) ys x h = elim h [ inl e ↦ inl e | inr n ↦ inr (has_left zs ys x n) ]

pub has_right : {A : Type 0} (xs ys : List A) (x : A) → Has ys x → Has (xs ++ ys) x
has_right [] ys x h = h
has_right (z ∷ zs) ys x h = inr (has_right zs ys x h)

pub apart_append : {A : Type 0} (xs ys : List A) → AreApart xs → AreApart ys
    → ((x : A) → Has xs x → Has ys x → ⊥) → AreApart (xs ++ ys)
apart_append [] ys h i cross = i
apart_append (z ∷ zs) ys h i cross = (
  (λ n. elim (has_append zs ys z n) [ inl m ↦ h.0 m | inr m ↦ cross z (inl refl) m ]),
  apart_append zs ys h.1 i (λ x a b. cross x (inr a) b),
)

pub apart_left : {A : Type 0} (xs ys : List A) → AreApart (xs ++ ys) → AreApart xs
apart_left [] ys h = tt
apart_left (z ∷ zs) ys h = ((λ n. h.0 (has_left zs ys z n)), apart_left zs ys h.1)

pub apart_right : {A : Type 0} (xs ys : List A) → AreApart (xs ++ ys) → AreApart ys
apart_right [] ys h = h
apart_right (z ∷ zs) ys h = apart_right zs ys h.1

pub apart_cross : {A : Type 0} (xs ys : List A) (x : A) → AreApart (xs ++ ys) → Has xs x → Has ys x
    → ⊥
apart_cross [] ys x h a b = absurd a
apart_cross (z ∷ zs) ys x h a b = elim a [
  | inl e ↦ h.0 (has_right zs ys z (subst (Has ys) (sym e) b))
  | inr n ↦ apart_cross zs ys x h.1 n b
]

-- ---- lists of numbers of all elements, below a number

-- the element stands at that index
abbrev pub StandsAt : {A : Type 0} → ℕ → List A → A → Type 0
StandsAt i [] x = ⊥
StandsAt zero (y ∷ ys) x = y ≡ x
StandsAt (suc i) (y ∷ ys) x = StandsAt i ys x

-- the later numbers are apart where the earlier ones are, and one that is new is the next
pub record Grows (next : ℕ) (before after : List ℕ) : Type 0 where
  pub apart : AreApart before → ((n : ℕ) → Has before n → n < next) → AreApart after
  pub from : (n : ℕ) → Has after n → Has before n ⊎ (next ≡ n)

module _ {A : Type 0} (f : A → List ℕ) (next : ℕ) where
  pub has_all_changed : (g : A → A) (i : ℕ) (xs : List A)
      → ((x : A) → StandsAt i xs x → Grows next (f x) (f (g x))) → (n : ℕ)
      → Has (flat_map f (changed_at i g xs)) n → Has (flat_map f xs) n ⊎ (next ≡ n)
  has_all_changed g i [] grows n h = absurd h
  has_all_changed g zero (x ∷ xs) grows n h = elim (has_append (f (g x)) (flat_map f xs) n h) [
    | inl a ↦ elim ((grows x refl).from n a) [
      | inl b ↦ inl (has_left (f x) (flat_map f xs) n b)
      | inr b ↦ inr b
    ]
    | inr a ↦ inl (has_right (f x) (flat_map f xs) n a)
  ]
  has_all_changed g (suc i) (x ∷ xs) grows n h =
      elim (has_append (f x) (flat_map f (changed_at i g xs)) n h) [
        | inl a ↦ inl (has_left (f x) (flat_map f xs) n a)
        | inr a ↦ elim (has_all_changed g i xs grows n a) [
          | inl b ↦ inl
              (has_right (f x) (flat_map f xs) n b)
          | inr b ↦ inr b
        ]
      ]

  pub all_apart_changed : (g : A → A) (i : ℕ) (xs : List A)
      → ((x : A) → StandsAt i xs x → Grows next (f x) (f (g x))) → AreApart (flat_map f xs)
      → ((n : ℕ) → Has (flat_map f xs) n → n < next) → AreApart (flat_map f (changed_at i g xs))
  all_apart_changed g i [] grows h low = tt
  all_apart_changed g zero (x ∷ xs) grows h low = apart_append (f (g x)) (flat_map f xs)
      ((grows x refl).apart (apart_left (f x) (flat_map f xs) h)
      (λ n a. low n (has_left (f x) (flat_map f xs) n a)))
      (apart_right (f x) (flat_map f xs) h)
      (λ n a b. elim ((grows x refl).from n a) [
        | inl c ↦ apart_cross (f x) (flat_map f xs) n h c b
        | inr c ↦ (let l = low n (has_right (f x) (flat_map f xs) n b) in
            absurd (omega (arith, l, c)))
      ])
  all_apart_changed g (suc i) (x ∷ xs) grows h low =
      apart_append (f x) (flat_map f (changed_at i g xs))
      (apart_left (f x) (flat_map f xs) h)
      (all_apart_changed g i xs grows (apart_right (f x) (flat_map f xs) h)
      (λ n b. low n (has_right (f x) (flat_map f xs) n b)))
      (λ n a b. elim (has_all_changed g i xs grows n b) [
        | inl c ↦ apart_cross (f x) (flat_map f xs) n h a c
        | inr c ↦ (let l = low n (has_left (f x) (flat_map f xs) n a) in
            absurd (omega (arith, l, c)))
      ])

  pub has_all_put : (i : ℕ) (y : A) (xs : List A) (n : ℕ) → Has (flat_map f (put_at i y xs)) n
      → Has (flat_map f xs) n ⊎ Has (f y) n
  has_all_put zero y [] n h = elim (has_append (f y) [] n h) [ inl a ↦ inr a | inr a ↦ absurd a ]
  has_all_put (suc i) y [] n h = elim (has_append (f y) [] n h) [ inl a ↦ inr a | inr a ↦ absurd a ]
  has_all_put zero y (x ∷ xs) n h =
      elim (has_append (f y) (flat_map f xs) n h) [
        | inl a ↦ inr a
        | inr a ↦ inl
            (has_right (f x) (flat_map f xs) n a)
      ]
  has_all_put (suc i) y (x ∷ xs) n h = elim (has_append (f x) (flat_map f (put_at i y xs)) n h) [
    | inl a ↦ inl (has_left (f x) (flat_map f xs) n a)
    | inr a ↦ elim (has_all_put i y xs n a) [
      | inl b ↦ inl (has_right (f x) (flat_map f xs) n b)
      | inr b ↦ inr b
    ]
  ]

  pub all_apart_put : (i : ℕ) (y : A) (xs : List A) → AreApart (f y)
      → ((n : ℕ) → Has (f y) n → next ≤ n) → AreApart (flat_map f xs)
      → ((n : ℕ) → Has (flat_map f xs) n → n < next) → AreApart (flat_map f (put_at i y xs))
  all_apart_put zero y [] own new h low = apart_append (f y) [] own tt (λ n a b. b)
  all_apart_put (suc i) y [] own new h low = apart_append (f y) [] own tt (λ n a b. b)
  all_apart_put zero y (x ∷ xs) own new h low =
      apart_append (f y) (flat_map f xs) own (apart_right (f x) (flat_map f xs) h) (λ n a b.
      let l = low n (has_right (f x) (flat_map f xs) n b) in let c = new n a in absurd (omega (arith, l, c)))
  all_apart_put (suc i) y (x ∷ xs) own new h low = apart_append (f x) (flat_map f (put_at i y xs))
      (apart_left (f x) (flat_map f xs) h)
      (all_apart_put i y xs own new (apart_right (f x) (flat_map f xs) h)
      (λ n b. low n (has_right (f x) (flat_map f xs) n b)))
      (λ n a b. elim (has_all_put i y xs n b) [
        | inl c ↦ apart_cross (f x) (flat_map f xs) n h a c
        | inr c ↦ (let l = low n (has_left (f x) (flat_map f xs) n a) in
            let d = new n c in absurd (omega (arith, l, d)))
      ])

  pub has_all_removed : (xs : List A) (i n : ℕ) → Has (flat_map f (remove xs i)) n
      → Has (flat_map f xs) n
  has_all_removed [] zero n h = absurd h
  has_all_removed [] (suc i) n h = absurd h
  has_all_removed (x ∷ xs) zero n h = has_right (f x) (flat_map f xs) n h
  has_all_removed (x ∷ xs) (suc i) n h = elim (has_append (f x) (flat_map f (remove xs i)) n h) [
    | inl a ↦ has_left (f x) (flat_map f xs) n a
    | inr a ↦ has_right (f x) (flat_map f xs) n (has_all_removed xs i n a)
  ]

  pub all_apart_removed : (xs : List A) (i : ℕ) → AreApart (flat_map f xs)
      → AreApart (flat_map f (remove xs i))
  all_apart_removed [] zero h = tt
  all_apart_removed [] (suc i) h = tt
  all_apart_removed (x ∷ xs) zero h = apart_right (f x) (flat_map f xs) h
  all_apart_removed (x ∷ xs) (suc i) h = apart_append (f x) (flat_map f (remove xs i))
      (apart_left (f x) (flat_map f xs) h)
      (all_apart_removed xs i (apart_right (f x) (flat_map f xs) h))
      (λ n a b. apart_cross (f x) (flat_map f xs) n h a (has_all_removed xs i n b))

-- what a function gives of the element at an index
pub stands_get : {A B : Type 0} (h : A → B) (i : ℕ) (xs : List A) (x : A) (d : B) → StandsAt i xs x
    → slice_index_or (map h xs) i d ≡ h x
stands_get h i [] x d s = absurd s
stands_get h zero (y ∷ ys) x d s = ap h s
stands_get h (suc i) (y ∷ ys) x d s = stands_get h i ys x d s
