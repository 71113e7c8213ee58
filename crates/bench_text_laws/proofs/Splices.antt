-- Lists of numbers of which one part gives way to new numbers: the others stay in order.
use Rattle.std.proofs.Common.{ℕ, zero, suc, ◌<◌, ◌≤◌, ◌≡◌, ◌⊎◌, inl, inr, List, [], ◌∷◌, ◌++◌, append_assoc, Some, refl, sym, ap, subst, ◌∙◌, arith}
use Rattle.std.specs.List.{flat_map, insert, remove, slice_get}
use Rattle.std.proofs.lemmas.Option.{none-some, same_Some}
use Rattle.memo_core.specs.Step.{Has}
use Rattle.bench_texts.specs.BenchTexts.{put_at, changed_at}
use Rattle.bench_text_laws.specs.Orderly.{AreApart}
use Rattle.bench_text_laws.specs.Order.{StandsBefore}
use Rattle.bench_text_laws.proofs.Lists.{StandsAt, has_append, has_left, has_right}

-- ---- one number before another

-- a stands before b, by recursion
abbrev pub Precedes : List ℕ → ℕ → ℕ → Type 0
Precedes [] a b = ⊥
Precedes (x ∷ xs) a b = ((x ≡ a) × Has xs b) ⊎ Precedes xs a b

pub has_at : (xs : List ℕ) (i n : ℕ) → slice_get xs i ≡ Some n → Has xs n
has_at [] i n e = absurd (none-some n e)
has_at (x ∷ xs) zero n e = inl (same_Some x n e)
has_at (x ∷ xs) (suc i) n e = inr (has_at xs i n e)

pub at_has : (xs : List ℕ) (n : ℕ) → Has xs n → (i : ℕ) × (slice_get xs i ≡ Some n)
at_has [] n h = absurd h
at_has (x ∷ xs) n h =
    elim h [ inl e ↦ (zero, ap Some e) | inr m ↦ (let r = at_has xs n m in (suc r.0, r.1)) ]

pub precedes : (xs : List ℕ) (i j a b : ℕ) → slice_get xs i ≡ Some a → slice_get xs j ≡ Some b
    → i < j → Precedes xs a b
precedes [] i j a b e f l = absurd (none-some a e)
precedes (x ∷ xs) zero zero a b e f l = absurd (omega (arith, l))
precedes (x ∷ xs) (suc i) zero a b e f l = absurd (omega (arith, l))
precedes (x ∷ xs) zero (suc j) a b e f l = inl (same_Some x a e, has_at xs j b f)
precedes (x ∷ xs) (suc i) (suc j) a b e f l = inr (precedes xs i j a b e f (omega (arith, l)))

pub is_before : (xs : List ℕ) (a b : ℕ) → Precedes xs a b → StandsBefore xs a b
is_before [] a b h = absurd h
is_before (x ∷ xs) a b h = elim h [
  | inl p ↦ (let r = at_has xs b p.1 in (zero, suc r.0, ap Some p.0, r.1, omega arith))
  | inr p ↦ (let r = is_before xs a b p in
      (suc r.0, suc r.1, r.2, r.3, (let l = r.4 in omega (arith, l))))
]

pub precedes_has : (xs : List ℕ) (a b : ℕ) → Precedes xs a b → Has xs a × Has xs b
precedes_has [] a b h = absurd h
precedes_has (x ∷ xs) a b h =
    elim h [
      | inl p ↦ (inl p.0, inr p.1)
      | inr p ↦ (let r = precedes_has xs a b p in
          (inr r.0, inr r.1))
    ]

pub precedes_right : (xs ys : List ℕ) (a b : ℕ) → Precedes ys a b → Precedes (xs ++ ys) a b
precedes_right [] ys a b h = h
precedes_right (x ∷ xs) ys a b h = inr (precedes_right xs ys a b h)

precedes_left : (xs ys : List ℕ) (a b : ℕ) → Precedes xs a b → Precedes (xs ++ ys) a b
precedes_left [] ys a b h = absurd h
precedes_left (x ∷ xs) ys a b h =
    elim h [ inl p ↦ inl (p.0, has_left xs ys b p.1) | inr p ↦ inr (precedes_left xs ys a b p) ]

-- of two numbers that are apart one alone precedes the other, and none itself
pub one_way : (xs : List ℕ) (a b : ℕ) → AreApart xs → Precedes xs a b → Precedes xs b a → ⊥
one_way [] a b apart p q = absurd p
one_way (x ∷ xs) a b apart p q = elim p [
  | inl h ↦ elim q [
    | inl i ↦ apart.0 (later b i.0 h.1)
    | inr i ↦ apart.0
        (later a h.0 (precedes_has xs b a i).1)
  ]
  | inr h ↦ elim q [
    | inl i ↦ apart.0 (later b i.0 (precedes_has xs a b h).1)
    | inr i ↦ one_way xs a
        b apart.1 h i
  ]
]
  where
    later : (n : ℕ) → x ≡ n → Has xs n → Has xs x
    later n e h = subst (λ (k : ℕ). Has xs k) (sym e) h

-- what precedes in the numbers of an element precedes in those of all
pub precedes_among : {A : Type 0} (f : A → List ℕ) (xs : List A) (x : A) (a b : ℕ) → Has xs x
    → Precedes (f x) a b → Precedes (flat_map f xs) a b
precedes_among f [] x a b h p = absurd h
precedes_among f (y ∷ ys) x a b h p = elim h [
  | inl e ↦ precedes_left (f y) (flat_map f ys) a b (subst (λ z. Precedes (f z) a b) (sym e) p)
  | inr m ↦ precedes_right (f y) (flat_map f ys) a b (precedes_among f ys x a b m p)
]

pub has_among : {A : Type 0} (f : A → List ℕ) (xs : List A) (x : A) (n : ℕ) → Has xs x → Has (f x) n
    → Has (flat_map f xs) n
has_among f [] x n h i = absurd h
has_among f (y ∷ ys) x n h i = elim h [
  | inl e ↦ has_left (f y) (flat_map f ys) n (subst (λ z. Has (f z) n) (sym e) i)
  | inr m ↦ has_right (f y) (flat_map f ys) n (has_among f ys x n m i)
]

-- ---- the others stay in order

module _ (next : ℕ) (new rest : List ℕ) (fresh : (n : ℕ) → Has new n → next ≤ n) where
  order_rest : (old : List ℕ) (a b : ℕ) → AreApart (old ++ rest)
      → ((n : ℕ) → Has (old ++ rest) n → n < next) → Has (new ++ rest) a
      → Precedes (old ++ rest) a b → Precedes (new ++ rest) a b
  order_rest [] a b apart low h p = precedes_right new rest a b p
  order_rest (x ∷ xs) a b apart low h p = elim p [
    | inl q ↦ elim (has_append new rest a h) [
      | inl m ↦ (let l = low a (inl q.0) in let f = fresh a m in absurd (omega (arith, l, f)))
      | inr m ↦ absurd (apart.0 (has_right xs rest x (subst (λ (n : ℕ). Has rest n) (sym q.0) m)))
    ]
    | inr q ↦ order_rest xs a b apart.1 (λ n m. low n (inr m)) h q
  ]

  -- what is in both and not the first of the earlier ones
  others : (x n : ℕ) (before after : List ℕ) → (Has before x → ⊥) → Has before n → Has (x ∷ after) n
      → Has after n
  others x n before after apart h i =
      elim i [ inl e ↦ absurd (apart (subst (λ (k : ℕ). Has before k) (sym e) h)) | inr m ↦ m ]

  order_all : (front old : List ℕ) (a b : ℕ) → AreApart (front ++ (old ++ rest))
      → ((n : ℕ) → Has (front ++ (old ++ rest)) n → n < next) → Has (front ++ (new ++ rest)) a
      → Has (front ++ (new ++ rest)) b
      → Precedes (front ++ (old ++ rest)) a b → Precedes (front ++ (new ++ rest)) a b
  order_all [] old a b apart low h i p = order_rest old a b apart low h p
  order_all (x ∷ xs) old a b apart low h i p = elim p [
    | inl q ↦ inl (q.0, others x b (xs ++ (old ++ rest)) (xs ++ (new ++ rest)) apart.0 q.1 i)
    | inr q ↦ (let r =
        precedes_has (xs ++ (old ++ rest)) a b q in inr (order_all xs old a b apart.1
        (λ n m. low n (inr m))
        (others x a (xs ++ (old ++ rest)) (xs ++ (new ++ rest)) apart.0 r.0 h)
        (others x b (xs ++ (old ++ rest)) (xs ++ (new ++ rest)) apart.0 r.1 i) q))
  ]

-- ---- one part gives way

-- one part of the numbers gives way to numbers from `next` on
pub record IsSpliced (next : ℕ) (before after : List ℕ) : Type 0 where
  pub front : List ℕ
  pub old : List ℕ
  pub new : List ℕ
  pub rest : List ℕ
  pub before_is : before ≡ front ++ (old ++ rest)
  pub after_is : after ≡ front ++ (new ++ rest)
  pub fresh : (n : ℕ) → Has new n → next ≤ n

pub spliced_order : (next : ℕ) (before after : List ℕ) → IsSpliced next before after
    → AreApart before → ((n : ℕ) → Has before n → n < next)
    → (a b : ℕ) → Has after a → Has after b → StandsBefore before a b → StandsBefore after a b
spliced_order next before after s apart low a b h i p =
    is_before after a b (subst (λ (xs : List ℕ). Precedes xs a b) (sym s.after_is) (order_all next
    s.new s.rest s.fresh s.front s.old a b
    (subst AreApart s.before_is apart)
    (λ n m. low n (subst (λ (xs : List ℕ). Has xs n) (sym s.before_is) m))
    (subst (λ (xs : List ℕ). Has xs a) s.after_is h)
    (subst (λ (xs : List ℕ). Has xs b) s.after_is i)
    (subst (λ (xs : List ℕ). Precedes xs a b) s.before_is
    (precedes before p.0 p.1 a b p.2 p.3 p.4))))

pub spliced_fresh : (next : ℕ) (before after : List ℕ) → IsSpliced next before after → (n : ℕ)
    → Has after n → Has before n ⊎ (next ≤ n)
spliced_fresh next before after s n h =
    elim (has_append s.front (s.new ++ s.rest) n (subst (λ (xs : List ℕ). Has xs n) s.after_is h)) [
      | inl f ↦ was (has_left s.front (s.old ++ s.rest) n f)
      | inr m ↦ elim (has_append s.new s.rest n m) [
        | inl k ↦ inr (s.fresh n k)
        | inr r ↦ was
            (has_right s.front (s.old ++ s.rest) n (has_right s.old s.rest n r))
      ]
    ]
  where
    was : Has (s.front ++ (s.old ++ s.rest)) n → Has before n ⊎ (next ≤ n)
    was m = inl (subst (λ (xs : List ℕ). Has xs n) (sym s.before_is) m)

-- ---- which lists are spliced

module _ (next : ℕ) where
  spliced_here : (old new rest : List ℕ) → ((n : ℕ) → Has new n → next ≤ n)
      → IsSpliced next (old ++ rest) (new ++ rest)
  spliced_here old new rest fresh =
      record {
        front = [];
        old = old;
        new = new;
        rest = rest;
        before_is = refl;
        after_is = refl;
        fresh = fresh;
      }

  pub spliced_none : (xs : List ℕ) → IsSpliced next xs xs
  spliced_none xs = spliced_here [] [] xs (λ n h. absurd h)

  spliced_later : (zs before after : List ℕ) → IsSpliced next before after
      → IsSpliced next (zs ++ before) (zs ++ after)
  spliced_later zs before after s = record {
    front = zs ++ s.front;
    old = s.old;
    new = s.new;
    rest = s.rest;
    before_is =
        ap (λ (xs : List ℕ). zs ++ xs) s.before_is
        ∙ sym (append_assoc zs s.front (s.old ++ s.rest));
    after_is =
        ap (λ (xs : List ℕ). zs ++ xs) s.after_is ∙ sym (append_assoc zs s.front (s.new ++ s.rest));
    fresh = s.fresh;
  }

  with_more : (front part rest zs : List ℕ)
      → front ++ (part ++ rest) ++ zs ≡ front ++ (part ++ (rest ++ zs))
  with_more front part rest zs =
      append_assoc front (part ++ rest) zs
      ∙ ap (λ (xs : List ℕ). front ++ xs) (append_assoc part rest zs)

  spliced_earlier : (before after zs : List ℕ) → IsSpliced next before after
      → IsSpliced next (before ++ zs) (after ++ zs)
  spliced_earlier before after zs s = record {
    front = s.front;
    old = s.old;
    new = s.new;
    rest = s.rest ++ zs;
    before_is = ap (λ (xs : List ℕ). xs ++ zs) s.before_is ∙ with_more s.front s.old s.rest zs;
    after_is = ap (λ (xs : List ℕ). xs ++ zs) s.after_is ∙ with_more s.front s.new s.rest zs;
    fresh = s.fresh;
  }

  is_new : (y n : ℕ) → next ≤ y → Has (y ∷ []) n → next ≤ n
  is_new y n l h = elim h [ inl e ↦ subst (λ (k : ℕ). next ≤ k) e l | inr m ↦ absurd m ]

  pub spliced_inserted : (xs : List ℕ) (i y : ℕ) → next ≤ y → IsSpliced next xs (insert xs i y)
  spliced_inserted [] zero y l = spliced_here [] (y ∷ []) [] (λ n h. is_new y n l h)
  spliced_inserted [] (suc i) y l = spliced_here [] (y ∷ []) [] (λ n h. is_new y n l h)
  spliced_inserted (x ∷ xs) zero y l = spliced_here [] (y ∷ []) (x ∷ xs) (λ n h. is_new y n l h)
  spliced_inserted (x ∷ xs) (suc i) y l =
      spliced_later (x ∷ []) xs (insert xs i y) (spliced_inserted xs i y l)

  pub spliced_removed : (xs : List ℕ) (i : ℕ) → IsSpliced next xs (remove xs i)
  spliced_removed [] zero = spliced_none []
  spliced_removed [] (suc i) = spliced_none []
  spliced_removed (x ∷ xs) zero = spliced_here (x ∷ []) [] xs (λ n h. absurd h)
  spliced_removed (x ∷ xs) (suc i) = spliced_later (x ∷ []) xs (remove xs i) (spliced_removed xs i)

-- the numbers of all elements
module _ {A : Type 0} (f : A → List ℕ) (next : ℕ) where
  pub all_spliced_changed : (g : A → A) (i : ℕ) (xs : List A)
      → ((x : A) → StandsAt i xs x → IsSpliced next (f x) (f (g x)))
      → IsSpliced next (flat_map f xs) (flat_map f (changed_at i g xs))
  all_spliced_changed g i [] spliced = spliced_none next []
  all_spliced_changed g zero (x ∷ xs) spliced =
      spliced_earlier next (f x) (f (g x)) (flat_map f xs) (spliced x refl)
  all_spliced_changed g (suc i) (x ∷ xs) spliced =
      spliced_later next (f x) (flat_map f xs) (flat_map f (changed_at i g xs))
      (all_spliced_changed g i xs spliced)

  pub all_spliced_put : (i : ℕ) (y : A) (xs : List A) → ((n : ℕ) → Has (f y) n → next ≤ n)
      → IsSpliced next (flat_map f xs) (flat_map f (put_at i y xs))
  all_spliced_put zero y [] new = spliced_here next [] (f y) [] new
  all_spliced_put (suc i) y [] new = spliced_here next [] (f y) [] new
  all_spliced_put zero y (x ∷ xs) new = spliced_here next (f x) (f y) (flat_map f xs) new
  all_spliced_put (suc i) y (x ∷ xs) new =
      spliced_later next (f x) (flat_map f xs) (flat_map f (put_at i y xs))
      (all_spliced_put i y xs new)

  pub all_spliced_removed : (xs : List A) (i : ℕ)
      → IsSpliced next (flat_map f xs) (flat_map f (remove xs i))
  all_spliced_removed [] zero = spliced_none next []
  all_spliced_removed [] (suc i) = spliced_none next []
  all_spliced_removed (x ∷ xs) zero = spliced_here next (f x) [] (flat_map f xs) (λ n h. absurd h)
  all_spliced_removed (x ∷ xs) (suc i) =
      spliced_later next (f x) (flat_map f xs) (flat_map f (remove xs i)) (all_spliced_removed xs i)
