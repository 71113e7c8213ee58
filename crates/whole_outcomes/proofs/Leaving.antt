-- Where the elements of a list stand in one without some of them.
use Rattle.std.proofs.Common.{ℕ, ◌≡◌, ◌+◌, zero, suc, List, [], ◌∷◌, length, map, Option, Some, None, refl, ap, subst, arith}
use Rattle.std.specs.Prelude.{slice_get}
use Rattle.std.proofs.lemmas.Option.{none-some, same_Some}
use Rattle.whole_outcomes.specs.Sublists.{LeavesOut, nothing_left, stays, is_left}

first : (Z : Type 0) (full : List Z) (i : ℕ) (z : Z) → slice_get full (i + 0) ≡ Some z
    → slice_get full i ≡ Some z
first Z full i z h = subst (λ (m : ℕ). slice_get full m ≡ Some z) (let e : i + 0 ≡ i = omega arith in e) h

later : (Z : Type 0) (full : List Z) (i : ℕ) (zs : List Z)
    → ((p : ℕ) → slice_get full (i + suc p) ≡ slice_get zs p)
    → (p : ℕ) → slice_get full (i + 1 + p) ≡ slice_get zs p
later Z full i zs h p =
    subst (λ (m : ℕ). slice_get full m ≡ slice_get zs p)
    (let e : i + suc p ≡ i + 1 + p = omega arith in e) (h p)

module _ {X Y : Type 0} (Alike : X → Y → Type 0) (Left : ℕ → X → Type 0) where
  abbrev pub Leaves : ℕ → List X → ℕ → List Y → Type 0
  Leaves i xs j ys = LeavesOut (λ a x b y. Alike x y) (λ a x. Left a x) i xs j ys

  pub indexes_of : {i j : ℕ} {xs : List X} {ys : List Y} → Leaves i xs j ys → List (Option ℕ)
  indexes_of nothing_left = []
  indexes_of (stays {j = j} same rest) = Some j ∷ indexes_of rest
  indexes_of (is_left left rest) = None ∷ indexes_of rest

  pub as_many : {i j : ℕ} {xs : List X} {ys : List Y} (h : Leaves i xs j ys)
      → length (indexes_of h) ≡ length xs
  unfolding indexes_of
  as_many nothing_left = refl
  as_many (stays same rest) = ap suc (as_many rest)
  as_many (is_left left rest) = ap suc (as_many rest)

  -- one that stays stands at its index, counted from that of the first
  pub record Stands (j : ℕ) (ys : List Y) (m : ℕ) (x : X) : Type 0 where
    pub index : ℕ
    pub is : m ≡ j + index
    pub other : Y
    pub there : slice_get ys index ≡ Some other
    pub alike : Alike x other

  pub stands : {i j : ℕ} {xs : List X} {ys : List Y} (h : Leaves i xs j ys) (k m : ℕ) (x : X)
      → slice_get xs k ≡ Some x → slice_get (indexes_of h) k ≡ Some (Some m) → Stands j ys m x
  unfolding indexes_of
  stands nothing_left k m x at is = absurd (none-some x at)
  stands (stays {j = j} {x = x} {y = y} same rest) zero m z at is = record {
    index = 0;
    is = let e : j ≡ m = same_Some j m (same_Some (Some j) (Some m) is) in omega (arith, e);
    other = y;
    there = refl;
    alike = subst (λ (w : X). Alike w y) (same_Some x z at) same;
  }
  stands (stays {j = j} same rest) (suc k) m z at is =
      let later = stands rest k m z at is in record {
        index = suc later.index;
        is = let e : m ≡ j + 1 + later.index = later.is in omega (arith, e);
        other = later.other;
        there = later.there;
        alike = later.alike;
      }
  stands (is_left left rest) zero m z at is =
      absurd (none-some m (same_Some None (Some m) is))
  stands (is_left left rest) (suc k) m z at is = stands rest k m z at is

  -- with what is known of each by its index in the list of all
  pub with_indexes : (full : List (Option ℕ)) (all : List X) {i j : ℕ} {xs : List X} {ys : List Y}
      (h : Leaves i xs j ys)
      → ((p : ℕ) → slice_get full (i + p) ≡ slice_get (indexes_of h) p)
      → ((p : ℕ) → slice_get all (i + p) ≡ slice_get xs p)
      → LeavesOut (λ a x b y. Alike x y × (slice_get full a ≡ Some (Some b)))
      (λ a x. Left a x × (slice_get all a ≡ Some x)) i xs j ys
  unfolding indexes_of
  with_indexes full all nothing_left tells has = nothing_left
  with_indexes full all (stays {i = i} {j = j} {xs = xs} same rest) tells has =
      stays (same, first (Option ℕ) full i (Some j) (tells 0))
      (with_indexes full all rest (later (Option ℕ) full i (indexes_of rest) (λ p. tells (suc p)))
      (later X all i xs (λ p. has (suc p))))
  with_indexes full all (is_left {i = i} {x = x} {xs = xs} left rest) tells has =
      is_left (left, first X all i x (has 0))
      (with_indexes full all rest (later (Option ℕ) full i (indexes_of rest) (λ p. tells (suc p)))
      (later X all i xs (λ p. has (suc p))))

-- ---- lists of other things

pub mapped : {X Y Z W : Type 0} (f : X → Z) (g : Y → W) (Same : ℕ → X → ℕ → Y → Type 0)
    (Left : ℕ → X → Type 0) (More : ℕ → Z → ℕ → W → Type 0) (Gone : ℕ → Z → Type 0)
    → ((i : ℕ) (x : X) (j : ℕ) (y : Y) → Same i x j y → More i (f x) j (g y))
    → ((i : ℕ) (x : X) → Left i x → Gone i (f x)) → {i j : ℕ} {xs : List X} {ys : List Y}
    → LeavesOut Same Left i xs j ys → LeavesOut More Gone i (map f xs) j (map g ys)
mapped f g Same Left More Gone same gone nothing_left = nothing_left
mapped f g Same Left More Gone same gone (stays {i = i} {j = j} {x = x} {y = y} is rest) =
    stays (same i x j y is) (mapped f g Same Left More Gone same gone rest)
mapped f g Same Left More Gone same gone (is_left {i = i} {x = x} is rest) =
    is_left (gone i x is) (mapped f g Same Left More Gone same gone rest)

-- what is known implies something else
pub changed : {X Y : Type 0} (Same : ℕ → X → ℕ → Y → Type 0) (Left : ℕ → X → Type 0)
    (More : ℕ → X → ℕ → Y → Type 0) (Gone : ℕ → X → Type 0)
    → ((i : ℕ) (x : X) (j : ℕ) (y : Y) → Same i x j y → More i x j y)
    → ((i : ℕ) (x : X) → Left i x → Gone i x) → {i j : ℕ} {xs : List X} {ys : List Y}
    → LeavesOut Same Left i xs j ys → LeavesOut More Gone i xs j ys
changed Same Left More Gone same gone nothing_left = nothing_left
changed Same Left More Gone same gone (stays {i = i} {j = j} {x = x} {y = y} is rest) =
    stays (same i x j y is) (changed Same Left More Gone same gone rest)
changed Same Left More Gone same gone (is_left {i = i} {x = x} is rest) =
    is_left (gone i x is) (changed Same Left More Gone same gone rest)
