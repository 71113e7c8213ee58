-- What of a list stands where a test passes another, by index: how many, and which.
use Rattle.std.proofs.Common.{ℕ, zero, suc, ◌≡◌, ◌<◌, ◌+◌, ◌⊎◌, inl, inr, Bool, true, false, ◌&&◌, cond, List, [], ◌∷◌, length, filter, get_or, Contains, AllPairs, Option, None, Some, slice_get, refl, sym, ap, subst, ◌∙◌, arith, true≢false}
use Rattle.std.specs.List.{enumerate_from}
use Rattle.std.proofs.lemmas.Option.{same_Some, slice_get-get_or, slice_get_within}
use Rattle.std.proofs.lemmas.List.Elements.{Contains-get_or}
use Rattle.verdict.specs.Evaluated.{number_that}
use Rattle.outcome_states.specs.Kept.{is_kept, kept}
use Rattle.meaning.specs.Sets.{Set, IsOnce, IsListOf, HasCount}
use Rattle.meaning.proofs.Counting.{here, behind, head_or_tail, first_pair, later_pairs}
use Rattle.meaning_executions.proofs.Lists.{index_of, member}

-- a list with one element before
pub with_first : {X : Type 0} (R : X → X → Type 0) (x : X) (xs : List X)
    → ((z : X) → Contains xs z → R x z) → AllPairs R xs → AllPairs R (x ∷ xs)
with_first R x xs first rest zero zero d before lt = absurd (omega (arith, before))
with_first R x xs first rest zero (suc j) d before lt =
    first (get_or xs j d) (Contains-get_or xs j d (omega (arith, lt)))
with_first R x xs first rest (suc i) zero d before lt = absurd (omega (arith, before))
with_first R x xs first rest (suc i) (suc j) d before lt =
    rest i j d (omega (arith, before)) (omega (arith, lt))

pub no_pairs : {X : Type 0} (R : X → X → Type 0) → AllPairs R []
no_pairs R i j d before lt = absurd (omega (arith, lt))

pub none_within : {X : Type 0} (xs : List X) (k : ℕ) → k < length xs → slice_get xs k ≡ None → ⊥
none_within [] k lt e = omega (arith, lt)
none_within (x ∷ xs) zero lt e = cc
none_within (x ∷ xs) (suc k) lt e = none_within xs k (omega (arith, lt)) e

-- those of a list that pass a test, each with its index
abbrev pub passing : {X : Type 0} → (ℕ → X → Bool) → ℕ → List X → List (ℕ × X)
passing test n xs = filter (λ p. test p.0 p.1) (enumerate_from n xs)

module _ {X Y : Type 0} (test : ℕ → X → Bool) where
  pub pick : ℕ → List X → List Y → List Y
  pick n [] ys = []
  pick n (x ∷ xs) [] = []
  pick n (x ∷ xs) (y ∷ ys) = cond (test n x) (y ∷ pick (n + 1) xs ys) (pick (n + 1) xs ys)

  -- ---- as many

  one_more : (b : Bool) (y : Y) (ys : List Y) (p : ℕ × X) (ps : List (ℕ × X))
      → length ys ≡ length ps → length (cond b (y ∷ ys) ys) ≡ length (cond b (p ∷ ps) ps)
  one_more true y ys p ps e = ap (λ (k : ℕ). suc k) e
  one_more false y ys p ps e = e

  pub picked_many : (n : ℕ) (xs : List X) (ys : List Y) → length xs ≡ length ys
      → length (pick n xs ys) ≡ length (passing test n xs)
  unfolding pick
  picked_many n [] ys e = refl
  picked_many n (x ∷ xs) [] e = absurd (omega (arith, e))
  picked_many n (x ∷ xs) (y ∷ ys) e =
      one_more (test n x) y (pick (n + 1) xs ys) (n, x) (passing test (n + 1) xs)
      (picked_many (n + 1) xs ys (omega (arith, e)))

  -- ---- which

  -- it stands at an index where the test passes
  pub record IsPicked (n : ℕ) (xs : List X) (ys : List Y) (z : Y) : Type 0 where
    pub index : ℕ
    pub beside : X
    pub at : slice_get xs index ≡ Some beside
    pub there : slice_get ys index ≡ Some z
    pub passes : test (n + index) beside ≡ true

  later : (n : ℕ) (x : X) (xs : List X) (y : Y) (ys : List Y) (z : Y)
      → IsPicked (n + 1) xs ys z → IsPicked n (x ∷ xs) (y ∷ ys) z
  later n x xs y ys z p = record {
    index = suc p.index;
    beside = p.beside;
    at = p.at;
    there = p.there;
    passes =
        let e : n + suc p.index ≡ (n + 1) + p.index = omega arith in
        subst (λ (k : ℕ). test k p.beside ≡ true) (sym e) p.passes;
  }

  first_one : (n : ℕ) (x : X) (xs : List X) (y : Y) (ys : List Y) (z : Y) → test n x ≡ true → y ≡ z
      → IsPicked n (x ∷ xs) (y ∷ ys) z
  first_one n x xs y ys z passes same = record {
    index = 0;
    beside = x;
    at = refl;
    there = ap (λ (w : Y). Some w) same;
    passes =
        let e : n + 0 ≡ n = omega arith in
        subst (λ (k : ℕ). test k x ≡ true) (sym e) passes;
  }

  found_in : (b : Bool) (n : ℕ) (x : X) (xs : List X) (y : Y) (ys zs : List Y) (z : Y)
      → test n x ≡ b → (Contains zs z → IsPicked (n + 1) xs ys z) → Contains (cond b (y ∷ zs) zs) z
      → IsPicked n (x ∷ xs) (y ∷ ys) z
  found_in false n x xs y ys zs z is rest h = later n x xs y ys z (rest h)
  found_in true n x xs y ys zs z is rest h = elim (head_or_tail y zs z h) [
    | inl same ↦ first_one n x xs y ys z is same
    | inr behind ↦ later n x xs y ys z (rest behind)
  ]

  pub picked_from : (n : ℕ) (xs : List X) (ys : List Y) (z : Y) → Contains (pick n xs ys) z
      → IsPicked n xs ys z
  unfolding pick
  picked_from n [] ys z h = absurd (let lt : _ = h.1 in omega (arith, lt))
  picked_from n (x ∷ xs) [] z h = absurd (let lt : _ = h.1 in omega (arith, lt))
  picked_from n (x ∷ xs) (y ∷ ys) z h =
      found_in (test n x) n x xs y ys (pick (n + 1) xs ys) z refl
      (λ c. picked_from (n + 1) xs ys z c) h

  kept_behind : (b : Bool) (y : Y) (zs : List Y) (z : Y) → Contains zs z
      → Contains (cond b (y ∷ zs) zs) z
  kept_behind true y zs z c = behind y zs z c
  kept_behind false y zs z c = c

  kept_here : (b : Bool) (y : Y) (zs : List Y) (z : Y) → b ≡ true → y ≡ z
      → Contains (cond b (y ∷ zs) zs) z
  kept_here true y zs z is same = subst (λ (w : Y). Contains (y ∷ zs) w) same (here y zs)
  kept_here false y zs z is same = absurd (true≢false (sym is))

  pub picked_there : (n : ℕ) (xs : List X) (ys : List Y) (k : ℕ) (x : X) (z : Y)
      → slice_get xs k ≡ Some x → slice_get ys k ≡ Some z → test (n + k) x ≡ true
      → Contains (pick n xs ys) z
  unfolding pick
  picked_there n [] ys k x z at there passes = absurd (let f : None ≡ Some x = at in cc)
  picked_there n (w ∷ xs) [] k x z at there passes = absurd (let f : None ≡ Some z = there in cc)
  picked_there n (w ∷ xs) (y ∷ ys) zero x z at there passes =
      let same : w ≡ x = same_Some _ _ at in
      let zeroth : n + 0 ≡ n = omega arith in
      kept_here (test n w) y (pick (n + 1) xs ys) z
      (ap (λ (v : X). test n v) same ∙ subst (λ (i : ℕ). test i x ≡ true) zeroth passes)
      (same_Some _ _ there)
  picked_there n (w ∷ xs) (y ∷ ys) (suc k) x z at there passes =
      let next : n + suc k ≡ (n + 1) + k = omega arith in
      kept_behind (test n w) y (pick (n + 1) xs ys) z
      (picked_there (n + 1) xs ys k x z at there
      (subst (λ (i : ℕ). test i x ≡ true) next passes))

  -- what is picked stands in the list
  picked_member : (n : ℕ) (xs : List X) (ys : List Y) (z : Y) → Contains (pick n xs ys) z
      → Contains ys z
  picked_member n xs ys z h =
      let p : IsPicked n xs ys z = picked_from n xs ys z h in member ys p.index z p.there

  once_more : (b : Bool) (y : Y) (zs : List Y) → ((z : Y) → Contains zs z → y ≡ z → ⊥)
      → IsOnce zs → IsOnce (cond b (y ∷ zs) zs)
  once_more true y zs other once = with_first (λ (v w : Y). v ≡ w → ⊥) y zs other once
  once_more false y zs other once = once

  pub picked_once : (n : ℕ) (xs : List X) (ys : List Y) → IsOnce ys → IsOnce (pick n xs ys)
  unfolding pick
  picked_once n [] ys once = no_pairs (λ (v w : Y). v ≡ w → ⊥)
  picked_once n (x ∷ xs) [] once = no_pairs (λ (v w : Y). v ≡ w → ⊥)
  picked_once n (x ∷ xs) (y ∷ ys) once =
      once_more (test n x) y (pick (n + 1) xs ys)
      (λ z c. first_pair (λ (v w : Y). v ≡ w → ⊥) y ys once z (picked_member (n + 1) xs ys z c))
      (picked_once (n + 1) xs ys (later_pairs (λ (v w : Y). v ≡ w → ⊥) y ys once))

-- a member of one of two lists of one length, and what stands beside it
pub beside : {X Y : Type 0} (xs : List X) (ys : List Y) → length xs ≡ length ys → (y : Y)
    → Contains ys y
    → (k : ℕ) × (x : X) × (slice_get xs k ≡ Some x) × (slice_get ys k ≡ Some y)
beside {X} {Y} xs ys long y c =
    let at : _ = index_of ys y c in
    let lt : at.0 < length ys = slice_get_within ys at.0 y at.1 in
    found at.0 at.1 (omega (arith, lt, long)) (slice_get xs at.0) refl
  where
    found : (k : ℕ) → slice_get ys k ≡ Some y → k < length xs → (o : Option X)
        → slice_get xs k ≡ o
        → (i : ℕ) × (x : X) × (slice_get xs i ≡ Some x) × (slice_get ys i ≡ Some y)
    found k there below (Some x) at = (k, x, at, there)
    found k there below None at = absurd (none_within xs k below at)

-- ---- kept candidates that pass a test

twice : {X : Type 0} (p q : X → Bool) (xs : List X)
    → filter p (filter q xs) ≡ filter (λ x. q x && p x) xs
twice p q [] = refl
twice {X} p q (x ∷ xs) = by (q x) (twice p q xs)
  where
    by : (b : Bool) → filter p (filter q xs) ≡ filter (λ x. q x && p x) xs
        → filter p (cond b (x ∷ filter q xs) (filter q xs))
        ≡ cond (b && p x) (x ∷ filter (λ x. q x && p x) xs) (filter (λ x. q x && p x) xs)
    by true rest = ap (λ (ys : List X). cond (p x) (x ∷ ys) ys) rest
    by false rest = rest

module _ {X Y : Type 0} (checks : List (List Bool)) (f : X → Bool) (xs : List X) (ys : List Y)
    (long : length xs ≡ length ys) where
  abbrev pub passes_kept : ℕ → X → Bool
  passes_kept k x = is_kept checks k && f x

  pub numbered_picks : number_that f (kept checks xs) ≡ length (pick passes_kept 0 xs ys)
  numbered_picks =
      ap (λ (ps : List (ℕ × X)). length ps)
      (twice (λ (p : ℕ × X). f p.1) (λ (p : ℕ × X). is_kept checks p.0) (enumerate_from 0 xs))
      ∙ sym (picked_many passes_kept 0 xs ys long)

  zeroth : (k : ℕ) (x : X) → passes_kept (0 + k) x ≡ true → passes_kept k x ≡ true
  zeroth k x h =
      let e : 0 + k ≡ k = omega arith in subst (λ (i : ℕ). passes_kept i x ≡ true) e h

  from_zeroth : (k : ℕ) (x : X) → passes_kept k x ≡ true → passes_kept (0 + k) x ≡ true
  from_zeroth k x h =
      let e : k ≡ 0 + k = omega arith in subst (λ (i : ℕ). passes_kept i x ≡ true) e h

  -- as many are kept and pass the test as a set has members, which stand beside them
  pub counted : (S : Set Y) → IsOnce ys
      → ((k : ℕ) (x : X) (y : Y) → slice_get xs k ≡ Some x → slice_get ys k ≡ Some y
      → passes_kept k x ≡ true → S y)
      → ((y : Y) → S y → Contains ys y)
      → ((k : ℕ) (x : X) (y : Y) → slice_get xs k ≡ Some x → slice_get ys k ≡ Some y → S y
      → passes_kept k x ≡ true)
      → (n : ℕ) → n ≡ number_that f (kept checks xs) → HasCount S n
  counted S once sound inside whole n is = (
    pick passes_kept 0 xs ys,
    record {
      once = picked_once passes_kept 0 xs ys once;
      exact = λ y. (λ c. out y c, λ h. into y h);
    },
    is ∙ numbered_picks,
  )
    where
      out : (y : Y) → Contains (pick passes_kept 0 xs ys) y → S y
      out y c =
          let p : IsPicked passes_kept 0 xs ys y = picked_from passes_kept 0 xs ys y c in
          sound p.index p.beside y p.at p.there (zeroth p.index p.beside p.passes)

      into : (y : Y) → S y → Contains (pick passes_kept 0 xs ys) y
      into y h =
          let b : _ = beside xs ys long y (inside y h) in
          picked_there passes_kept 0 xs ys b.0 b.1 y b.2 b.3
          (from_zeroth b.0 b.1 (whole b.0 b.1 y b.2 b.3 h))

  -- some candidate is kept and passes the test where their number is above 0
  pub some_passes : 0 < number_that f (kept checks xs)
      → (k : ℕ) × (x : X) × (y : Y) × (slice_get xs k ≡ Some x) × (slice_get ys k ≡ Some y)
      × (passes_kept k x ≡ true)
  some_passes above = at (pick passes_kept 0 xs ys) refl
    where
      at : (zs : List Y) → pick passes_kept 0 xs ys ≡ zs
          → (k : ℕ) × (x : X) × (y : Y) × (slice_get xs k ≡ Some x) × (slice_get ys k ≡ Some y)
          × (passes_kept k x ≡ true)
      at [] none =
          absurd
          (let e : number_that f (kept checks xs) ≡ 0 =
          numbered_picks ∙ ap (λ (zs : List Y). length zs) none in
          omega (arith, e, above))
      at (z ∷ zs) some =
          let p : IsPicked passes_kept 0 xs ys z =
          picked_from passes_kept 0 xs ys z
          (subst (λ (ws : List Y). Contains ws z) (sym some) (here z zs)) in
          (p.index, p.beside, z, p.at, p.there, zeroth p.index p.beside p.passes)

-- a candidate that is kept stands among those that are
enumerated : {X : Type 0} (n : ℕ) (xs : List X) (k : ℕ) (x : X) → slice_get xs k ≡ Some x
    → Contains (enumerate_from n xs) (n + k, x)
enumerated n [] k x at = absurd (let f : None ≡ Some x = at in cc)
enumerated {X} n (w ∷ xs) zero x at =
    let zeroth : n ≡ n + 0 = omega arith in
    subst (λ (i : ℕ). Contains ((n, w) ∷ enumerate_from (n + 1) xs) (i, x)) zeroth
    (subst (λ (v : X). Contains ((n, w) ∷ enumerate_from (n + 1) xs) (n, v)) (same_Some _ _ at)
    (here (n, w) (enumerate_from (n + 1) xs)))
enumerated {X} n (w ∷ xs) (suc k) x at =
    let next : (n + 1) + k ≡ n + suc k = omega arith in
    subst (λ (i : ℕ). Contains ((n, w) ∷ enumerate_from (n + 1) xs) (i, x)) next
    (behind (n, w) (enumerate_from (n + 1) xs) ((n + 1) + k, x) (enumerated (n + 1) xs k x at))

filtered : {X : Type 0} (p : X → Bool) (xs : List X) (x : X) → Contains xs x → p x ≡ true
    → Contains (filter p xs) x
filtered p [] x c passes = absurd (let lt : _ = c.1 in omega (arith, lt))
filtered {X} p (w ∷ xs) x c passes = by (p w) refl (head_or_tail w xs x c)
    (λ h. filtered p xs x h passes)
  where
    by : (b : Bool) → p w ≡ b → (w ≡ x) ⊎ Contains xs x
        → (Contains xs x → Contains (filter p xs) x)
        → Contains (cond b (w ∷ filter p xs) (filter p xs)) x
    by true is (inl same) rest =
        subst (λ (v : X). Contains (w ∷ filter p xs) v) same (here w (filter p xs))
    by true is (inr h) rest = behind w (filter p xs) x (rest h)
    by false is (inl same) rest =
        absurd (true≢false (sym (ap (λ (v : X). p v) same ∙ passes) ∙ is))
    by false is (inr h) rest = rest h

pub kept_there : {X : Type 0} (checks : List (List Bool)) (xs : List X) (k : ℕ) (x : X)
    → slice_get xs k ≡ Some x → is_kept checks k ≡ true → Contains (kept checks xs) (k, x)
kept_there {X} checks xs k x at keeps =
    let zeroth : 0 + k ≡ k = omega arith in
    filtered (λ (p : ℕ × X). is_kept checks p.0) (enumerate_from 0 xs) (k, x)
    (subst (λ (i : ℕ). Contains (enumerate_from 0 xs) (i, x)) zeroth (enumerated 0 xs k x at)) keeps
