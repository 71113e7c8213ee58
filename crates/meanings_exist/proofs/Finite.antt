-- Finite sets: those with a list of their members, in which a member may stand more than once.
use Rattle.std.proofs.Common.{◌≡◌, ◌↔◌, ◌⊎◌, inl, inr, ℕ, zero, suc, ◌<◌, ◌≤◌, List, [], ◌∷◌, ◌++◌, length, Some, slice_get, Contains, refl, sym, ap, subst, arith}
use Rattle.std.specs.List.{AllByRecursion, AllZip}
use Rattle.std.proofs.lemmas.Bool.{cases_lt}
use Rattle.std.proofs.lemmas.List.Elements.{Contains-append_left, Contains-append_right, Contains-append_cases, All-from_recursion, recursion_from_All}
use Rattle.meaning.specs.Sets.{Set, IsOnce, IsListOf, HasOver}
use Rattle.meaning.proofs.Counting.{here, behind, head_or_tail, counts_are_one}
use Rattle.plain_runs.proofs.Listing.{none_there, once_none, once_cons, head_new, tail_once}
use Rattle.plain_runs.proofs.Running.{no_some, same_some}
use Rattle.meanings_exist.proofs.Decisions.{Decided, decided_as, both_decided, not_decided}
use Rattle.meanings_exist.proofs.Sublists.{IsPart, part_of, decide_each}

pub record Finite {X : Type 0} (S : Set X) : Type 0 where
  pub things : List X
  pub exact : (x : X) → Contains things x ↔ S x

pub finite_as : {X : Type 0} (S T : Set X) → ((x : X) → S x → T x) → ((x : X) → T x → S x)
    → Finite S → Finite T
finite_as S T to back f = record {
  things = f.things;
  exact = λ x. ((λ there. to x ((f.exact x).0 there)), λ is. (f.exact x).1 (back x is));
}

pub finite_none : {X : Type 0} (S : Set X) → ((x : X) → S x → ⊥) → Finite S
finite_none S none = record {
  things = [];
  exact = λ x. ((λ there. absurd (none_there x there)), λ is. absurd (none x is));
}

pub finite_one : {X : Type 0} (x : X) → Finite (λ y. x ≡ y)
finite_one {X} x = record {
  things = x ∷ [];
  exact = λ y. (to y, λ e. subst (λ (z : X). Contains (x ∷ []) z) e (here x []));
}
  where
    to : (y : X) → Contains (x ∷ []) y → x ≡ y
    to y there = elim (head_or_tail x [] y there) [
      | inl at ↦ at
      | inr later ↦ absurd (none_there y later)
    ]

pub finite_list : {X : Type 0} (xs : List X) → Finite (λ x. Contains xs x)
finite_list xs = record { things = xs; exact = λ x. ((λ h. h), λ h. h) }

pub finite_either : {X : Type 0} (S T : Set X) → Finite S → Finite T
    → Finite (λ x. S x ⊎ T x)
finite_either {X} S T f g = record { things = f.things ++ g.things; exact = λ x. (to x, back x) }
  where
    to : (x : X) → Contains (f.things ++ g.things) x → S x ⊎ T x
    to x there = elim (Contains-append_cases f.things g.things x there) [
      | inl left ↦ inl ((f.exact x).0 left)
      | inr right ↦ inr ((g.exact x).0 right)
    ]

    back : (x : X) → S x ⊎ T x → Contains (f.things ++ g.things) x
    back x (inl is) = Contains-append_left f.things g.things x ((f.exact x).1 is)
    back x (inr is) = Contains-append_right f.things g.things x ((g.exact x).1 is)

over_list : {X Y : Type 0} (R : X → Set Y) (xs : List X)
    → ((x : X) → Contains xs x → Finite (R x))
    → Finite (λ y. (x : X) × Contains xs x × R x y)
over_list {X} {Y} R [] each =
    finite_none (λ y. (x : X) × Contains [] x × R x y) (λ y h. none_there h.0 h.1)
over_list {X} {Y} R (x ∷ xs) each =
    finite_as (λ y. R x y ⊎ ((z : X) × Contains xs z × R z y))
    (λ y. (z : X) × Contains (x ∷ xs) z × R z y) to back
    (finite_either (R x) (λ y. (z : X) × Contains xs z × R z y) (each x (here x xs))
    (over_list R xs (λ z there. each z (behind x xs z there))))
  where
    to : (y : Y) → R x y ⊎ ((z : X) × Contains xs z × R z y)
        → (z : X) × Contains (x ∷ xs) z × R z y
    to y (inl is) = (x, here x xs, is)
    to y (inr (z, there, is)) = (z, behind x xs z there, is)

    back : (y : Y) → (z : X) × Contains (x ∷ xs) z × R z y
        → R x y ⊎ ((z : X) × Contains xs z × R z y)
    back y (z, there, is) = elim (head_or_tail x xs z there) [
      | inl at ↦ inl (subst (λ (w : X). R w y) (sym at) is)
      | inr later ↦ inr (z, later, is)
    ]

-- what the members of a finite set give, where each gives finitely many
pub finite_over : {X Y : Type 0} (S : Set X) (R : X → Set Y) → Finite S
    → ((x : X) → S x → Finite (R x)) → Finite (λ y. (x : X) × S x × R x y)
finite_over {X} {Y} S R f each =
    finite_as (λ y. (x : X) × Contains f.things x × R x y) (λ y. (x : X) × S x × R x y)
    (λ y h. (h.0, (f.exact h.0).0 h.1, h.2)) (λ y h. (h.0, (f.exact h.0).1 h.1, h.2))
    (over_list R f.things (λ x there. each x ((f.exact x).0 there)))

pub finite_map : {X Y : Type 0} (S : Set X) (g : X → Y) → Finite S
    → Finite (λ y. (x : X) × S x × (g x ≡ y))
finite_map S g f = finite_over S (λ x y. g x ≡ y) f (λ x is. finite_one (g x))

pub finite_if : {X : Type 0} (P : Type 0) (S : Set X) → Decided P → Finite S
    → Finite (λ x. P × S x)
finite_if P S (inl p) f =
    finite_as S (λ x. P × S x) (λ x is. (p, is)) (λ x h. h.1) f
finite_if P S (inr n) f = finite_none (λ x. P × S x) (λ x h. n h.0)

pub finite_where : {X : Type 0} (S T : Set X) → Finite S → ((x : X) → S x → Decided (T x))
    → Finite (λ x. S x × T x)
finite_where {X} S T f each =
    finite_as (λ y. (x : X) × S x × (T x × (x ≡ y))) (λ x. S x × T x)
    (λ y h. (subst S h.2.1 h.1, subst T h.2.1 h.2.0)) (λ y h. (y, h.0, (h.1, refl)))
    (finite_over S (λ x y. T x × (x ≡ y)) f
    (λ x is. finite_if (T x) (λ y. x ≡ y) (each x is) (finite_one x)))

pub finite_below : (n : ℕ) → Finite (λ k. k < n)
finite_below zero = finite_none (λ k. k < 0) (λ k lt. absurd (omega (arith, lt)))
finite_below (suc n) =
    finite_as (λ k. (k < n) ⊎ (n ≡ k)) (λ k. k < suc n) to back
    (finite_either (λ k. k < n) (λ k. n ≡ k) (finite_below n) (finite_one n))
  where
    to : (k : ℕ) → (k < n) ⊎ (n ≡ k) → k < suc n
    to k (inl lt) = omega (arith, lt)
    to k (inr e) = omega (arith, e)

    back : (k : ℕ) → k < suc n → (k < n) ⊎ (n ≡ k)
    back k lt = elim (cases_lt k n) [
      | inl below ↦ inl below
      | inr above ↦ inr (omega (arith, lt, above))
    ]

-- ---- what is decided over a finite set

some_in : {X : Type 0} (P : X → Type 0) (xs : List X)
    → ((x : X) → Contains xs x → Decided (P x)) → Decided ((x : X) × Contains xs x × P x)
some_in P [] each = inr (λ h. none_there h.0 h.1)
some_in {X} P (x ∷ xs) each =
    joined (each x (here x xs)) (some_in P xs (λ z there. each z (behind x xs z there)))
  where
    joined : Decided (P x) → Decided ((z : X) × Contains xs z × P z)
        → Decided ((z : X) × Contains (x ∷ xs) z × P z)
    joined (inl is) rest = inl (x, here x xs, is)
    joined (inr not) (inl (z, there, is)) = inl (z, behind x xs z there, is)
    joined (inr not) (inr none) = inr (λ h. elim (head_or_tail x xs h.0 h.1) [
      | inl at ↦ not (subst P (sym at) h.2)
      | inr later ↦ none (h.0, later, h.2)
    ])

pub some_decided : {X : Type 0} (S P : Set X) → Finite S → ((x : X) → S x → Decided (P x))
    → Decided ((x : X) × S x × P x)
some_decided S P f each =
    decided_as (λ h. (h.0, (f.exact h.0).0 h.1, h.2)) (λ h. (h.0, (f.exact h.0).1 h.1, h.2))
    (some_in P f.things (λ x there. each x ((f.exact x).0 there)))

pub each_decided : {X : Type 0} (S P : Set X) → Finite S → ((x : X) → S x → Decided (P x))
    → Decided ((x : X) → S x → P x)
each_decided {X} S P f each =
    by (some_decided S (λ x. P x → ⊥) f (λ x is. not_decided (each x is)))
  where
    surely : (x : X) → S x → Decided (P x) → ((z : X) × S z × (P z → ⊥) → ⊥) → P x
    surely x is (inl p) none = p
    surely x is (inr n) none = absurd (none (x, is, n))

    by : Decided ((x : X) × S x × (P x → ⊥)) → Decided ((x : X) → S x → P x)
    by (inl (x, is, n)) = inr (λ all. n (all x is))
    by (inr none) = inl (λ x is. surely x is (each x is) none)

pub inhabited : {X : Type 0} (S : Set X) → Finite S → Decided ((x : X) × S x)
inhabited {X} S f = by f.things f.exact
  where
    by : (xs : List X) → ((x : X) → Contains xs x ↔ S x) → Decided ((x : X) × S x)
    by [] exact = inr (λ h. none_there h.0 ((exact h.0).1 h.1))
    by (x ∷ xs) exact = inl (x, (exact x).0 (here x xs))

-- ---- where it is decided of two members whether they are one

module _ {X : Type 0} (S : Set X) (same : (x y : X) → S x → S y → Decided (x ≡ y)) where
  pub there_or_not : (xs : List X) → ((y : X) → Contains xs y → S y) → (x : X) → S x
      → Decided (Contains xs x)
  there_or_not [] members x is = inr (λ there. none_there x there)
  there_or_not (y ∷ ys) members x is =
      joined (same y x (members y (here y ys)) is)
      (there_or_not ys (λ z there. members z (behind y ys z there)) x is)
    where
      joined : Decided (y ≡ x) → Decided (Contains ys x) → Decided (Contains (y ∷ ys) x)
      joined (inl at) rest = inl (subst (λ (z : X). Contains (y ∷ ys) z) at (here y ys))
      joined (inr other) (inl later) = inl (behind y ys x later)
      joined (inr other) (inr none) = inr (λ there. elim (head_or_tail y ys x there) [
        | inl at ↦ other at
        | inr later ↦ none later
      ])

  once_each : (xs : List X) → ((y : X) → Contains xs y → S y)
      → (ys : List X) × IsOnce ys × ((x : X) → Contains ys x ↔ Contains xs x)
  once_each [] members = ([], once_none, λ x. ((λ h. h), λ h. h))
  once_each (x ∷ xs) members =
      let rest : _ = once_each xs (λ z there. members z (behind x xs z there)) in
      elim (there_or_not xs (λ z there. members z (behind x xs z there)) x (members x (here x xs))) [
        | inl there ↦ (rest.0, rest.1, λ z. (old rest.0 rest.2 z, again there rest.0 rest.2 z))
        | inr new ↦ (
          x ∷ rest.0,
          once_cons x rest.0 (λ there. new ((rest.2 x).0 there)) rest.1,
          λ z. (to rest.0 rest.2 z, back rest.0 rest.2 z),
        )
      ]
    where
      old : (ys : List X) → ((z : X) → Contains ys z ↔ Contains xs z) → (z : X)
          → Contains ys z → Contains (x ∷ xs) z
      old ys exact z there = behind x xs z ((exact z).0 there)

      again : Contains xs x → (ys : List X) → ((z : X) → Contains ys z ↔ Contains xs z)
          → (z : X) → Contains (x ∷ xs) z → Contains ys z
      again before ys exact z there = elim (head_or_tail x xs z there) [
        | inl at ↦ (exact z).1 (subst (λ (w : X). Contains xs w) at before)
        | inr later ↦ (exact z).1 later
      ]

      to : (ys : List X) → ((z : X) → Contains ys z ↔ Contains xs z) → (z : X)
          → Contains (x ∷ ys) z → Contains (x ∷ xs) z
      to ys exact z there = elim (head_or_tail x ys z there) [
        | inl at ↦ subst (λ (w : X). Contains (x ∷ xs) w) at (here x xs)
        | inr later ↦ behind x xs z ((exact z).0 later)
      ]

      back : (ys : List X) → ((z : X) → Contains ys z ↔ Contains xs z) → (z : X)
          → Contains (x ∷ xs) z → Contains (x ∷ ys) z
      back ys exact z there = elim (head_or_tail x xs z there) [
        | inl at ↦ subst (λ (w : X). Contains (x ∷ ys) w) at (here x ys)
        | inr later ↦ behind x ys z ((exact z).1 later)
      ]

  -- then a finite set has a list with each member once
  pub listed : Finite S → (xs : List X) × IsListOf S xs
  listed f =
      let found : _ = once_each f.things (λ x there. (f.exact x).0 there) in (
        found.0,
        record {
          once = found.1;
          exact = λ x. (
            (λ there. (f.exact x).0 ((found.2 x).0 there)),
            λ is. (found.2 x).1 ((f.exact x).1 is),
          );
        },
      )

  no_longer : (xs ys : List X) → IsListOf S xs → IsOnce ys → ((y : X) → Contains ys y → S y)
      → length ys ≤ length xs
  no_longer xs ys all once members =
      let part : (zs : List X) × IsPart (λ x. Contains ys x) xs zs =
      part_of (λ x. Contains ys x) xs all.once
      (decide_each (λ x. Decided (Contains ys x)) xs
      (λ x there. there_or_not ys members x ((all.exact x).0 there))) in
      let count : length part.0 ≡ length ys =
      counts_are_one (λ x. Contains ys x) (length part.0) (length ys)
      (part.0, record { once = part.1.once; exact = λ x. (to part.0 part.1 x, back part.0 part.1 x) }, refl)
      (ys, record { once = once; exact = λ x. ((λ h. h), λ h. h) }, refl) in
      omega (arith, part.1.shorter, count)
    where
      to : (zs : List X) → IsPart (λ x. Contains ys x) xs zs → (x : X) → Contains zs x
          → Contains ys x
      to zs part x there = ((part.exact x).0 there).1

      back : (zs : List X) → IsPart (λ x. Contains ys x) xs zs → (x : X) → Contains ys x
          → Contains zs x
      back zs part x there = (part.exact x).1 ((all.exact x).1 (members x there), there)

  -- and whether it has over so many members is decided
  pub over_decided : (n : ℕ) → Finite S → Decided (HasOver n S)
  over_decided n f = by (listed f)
    where
      of_members : (ys : List X) → AllByRecursion S ys → (y : X) → Contains ys y → S y
      of_members [] all y there = absurd (none_there y there)
      of_members (z ∷ zs) all y there = elim (head_or_tail z zs y there) [
        | inl at ↦ subst S at all.0
        | inr later ↦ of_members zs all.1 y later
      ]

      by : (xs : List X) × IsListOf S xs → Decided (HasOver n S)
      by (xs, all) = elim (cases_lt n (length xs)) [
        | inl lt ↦
            inl (
              xs,
              all.once,
              All-from_recursion S xs (decide_each S xs (λ x there. (all.exact x).0 there)),
              lt,
            )
        | inr ge ↦
            inr (λ h.
            let few : length h.0 ≤ length xs =
            no_longer xs h.0 all h.1 (of_members h.0 (recursion_from_All S h.0 h.2)) in
            absurd (omega (arith, few, ge, h.3)))
      ]

-- membership is decided, where it is decided of any two things whether they are one
pub member_or_not : {X : Type 0} (S : Set X) → ((x y : X) → Decided (x ≡ y)) → Finite S
    → (x : X) → Decided (S x)
member_or_not S same f x =
    decided_as (λ there. (f.exact x).0 there) (λ is. (f.exact x).1 is)
    (there_or_not (λ z. Unit {0}) (λ y z is are. same y z) f.things (λ y there. tt) x tt)

-- ---- lists of members

-- the members stand at their indexes
abbrev pub AreColumns : {X : Type 0} → (ℕ → Set X) → ℕ → Set (List X)
AreColumns {X} P n xs =
    (length xs ≡ n) × ((k : ℕ) (x : X) → slice_get xs k ≡ Some x → P k x)

pub finite_columns : {X : Type 0} (P : ℕ → Set X) (n : ℕ)
    → ((k : ℕ) → k < n → Finite (P k)) → Finite (AreColumns P n)
finite_columns {X} P zero each =
    finite_as (λ xs. [] ≡ xs) (AreColumns P 0) to back (finite_one [])
  where
    to : (xs : List X) → [] ≡ xs → AreColumns P 0 xs
    to xs e =
        subst (λ (l : List X). AreColumns P 0 l) e (refl, λ k x at. absurd (no_some x at))

    back : (xs : List X) → AreColumns P 0 xs → [] ≡ xs
    back [] h = refl
    back (x ∷ xs) h = let none : _ = h.0 in absurd (omega (arith, none))
finite_columns {X} P (suc n) each =
    finite_as
    (λ ys. (xs : List X) × AreColumns (λ k. P (suc k)) n xs
    × ((x : X) × P 0 x × (x ∷ xs ≡ ys)))
    (AreColumns P (suc n)) to back
    (finite_over (AreColumns (λ k. P (suc k)) n) (λ xs ys. (x : X) × P 0 x × (x ∷ xs ≡ ys))
    (finite_columns (λ k. P (suc k)) n (λ k lt. each (suc k) (omega (arith, lt))))
    (λ xs are. finite_map (P 0) (λ x. x ∷ xs) (each 0 (omega arith))))
  where
    placed : (x : X) (xs : List X) → P 0 x → AreColumns (λ k. P (suc k)) n xs → (k : ℕ) (z : X)
        → slice_get (x ∷ xs) k ≡ Some z → P k z
    placed x xs is are zero z at = subst (P 0) (same_some x z at) is
    placed x xs is are (suc k) z at = are.1 k z at

    to : (ys : List X)
        → (xs : List X) × AreColumns (λ k. P (suc k)) n xs × ((x : X) × P 0 x × (x ∷ xs ≡ ys))
        → AreColumns P (suc n) ys
    to ys (xs, are, (x, is, e)) =
        subst (λ (l : List X). AreColumns P (suc n) l) e
        (ap (λ (m : ℕ). suc m) are.0, placed x xs is are)

    back : (ys : List X) → AreColumns P (suc n) ys
        → (xs : List X) × AreColumns (λ k. P (suc k)) n xs × ((x : X) × P 0 x × (x ∷ xs ≡ ys))
    back [] h = let some : _ = h.0 in absurd (omega (arith, some))
    back (x ∷ xs) h =
        let count : suc (length xs) ≡ suc n = h.0 in (
          xs,
          (omega (arith, count), λ k z at. h.1 (suc k) z at),
          (x, h.1 0 x refl, refl),
        )

pub finite_zip : {X Y : Type 0} (R : X → Set Y) (xs : List X) → ((x : X) → Finite (R x))
    → Finite (λ ys. AllZip R xs ys)
finite_zip {X} {Y} R [] each =
    finite_as (λ ys. [] ≡ ys) (λ ys. AllZip R [] ys) to back (finite_one [])
  where
    to : (ys : List Y) → [] ≡ ys → AllZip R [] ys
    to ys e = subst (λ (l : List Y). AllZip R [] l) e tt

    back : (ys : List Y) → AllZip R [] ys → [] ≡ ys
    back [] h = refl
    back (y ∷ ys) h = absurd h
finite_zip {X} {Y} R (x ∷ xs) each =
    finite_as (λ zs. (ys : List Y) × AllZip R xs ys × ((y : Y) × R x y × (y ∷ ys ≡ zs)))
    (λ zs. AllZip R (x ∷ xs) zs) to back
    (finite_over (λ ys. AllZip R xs ys) (λ ys zs. (y : Y) × R x y × (y ∷ ys ≡ zs))
    (finite_zip R xs each) (λ ys are. finite_map (R x) (λ y. y ∷ ys) (each x)))
  where
    to : (zs : List Y) → (ys : List Y) × AllZip R xs ys × ((y : Y) × R x y × (y ∷ ys ≡ zs))
        → AllZip R (x ∷ xs) zs
    to zs (ys, are, (y, is, e)) = subst (λ (l : List Y). AllZip R (x ∷ xs) l) e (is, are)

    back : (zs : List Y) → AllZip R (x ∷ xs) zs
        → (ys : List Y) × AllZip R xs ys × ((y : Y) × R x y × (y ∷ ys ≡ zs))
    back [] h = absurd h
    back (y ∷ ys) h = (ys, h.1, (y, h.0, refl))

-- all lists of a set
pub finite_listings : {X : Type 0} (S : Set X) → ((x y : X) → Decided (x ≡ y)) → Finite S
    → Finite (λ ys. IsListOf S ys)
finite_listings {X} S same f = of_list (listed S (λ x y is are. same x y) f)
  where
    member : (ys : List X) (x : X) → Decided (Contains ys x)
    member ys x = member_or_not (λ z. Contains ys z) same (finite_list ys) x

    once_or_not : (ys : List X) → Decided (IsOnce ys)
    once_or_not [] = inl once_none
    once_or_not (y ∷ ys) =
        decided_as (λ h. once_cons y ys h.0 h.1)
        (λ h. (head_new y ys h, tail_once y ys h))
        (both_decided (not_decided (member ys y)) (once_or_not ys))

    of_list : (xs : List X) × IsListOf S xs → Finite (λ ys. IsListOf S ys)
    of_list (xs, all) =
        finite_as
        (λ ys. AreColumns (λ k. S) (length xs) ys
        × (IsOnce ys × ((x : X) → S x → Contains ys x)))
        (λ ys. IsListOf S ys) to back
        (finite_where (AreColumns (λ k. S) (length xs))
        (λ ys. IsOnce ys × ((x : X) → S x → Contains ys x))
        (finite_columns (λ k. S) (length xs) (λ k lt. f))
        (λ ys are. both_decided (once_or_not ys)
        (each_decided S (λ x. Contains ys x) f (λ x is. member ys x))))
      where
        at_index : (ys : List X) → ((k : ℕ) (x : X) → slice_get ys k ≡ Some x → S x) → (x : X)
            → Contains ys x → S x
        at_index [] each x there = absurd (none_there x there)
        at_index (y ∷ ys) each x there = elim (head_or_tail y ys x there) [
          | inl at ↦ subst S at (each 0 y refl)
          | inr later ↦ at_index ys (λ k z at. each (suc k) z at) x later
        ]

        to : (ys : List X)
            → AreColumns (λ k. S) (length xs) ys × (IsOnce ys × ((x : X) → S x → Contains ys x))
            → IsListOf S ys
        to ys h = record {
          once = h.1.0;
          exact = λ x. (at_index ys h.0.1 x, h.1.1 x);
        }

        indexed : (ys : List X) → ((x : X) → Contains ys x → S x) → (k : ℕ) (x : X)
            → slice_get ys k ≡ Some x → S x
        indexed [] each k x at = absurd (no_some x at)
        indexed (y ∷ ys) each zero x at = subst S (same_some y x at) (each y (here y ys))
        indexed (y ∷ ys) each (suc k) x at =
            indexed ys (λ z there. each z (behind y ys z there)) k x at

        back : (ys : List X) → IsListOf S ys
            → AreColumns (λ k. S) (length xs) ys × (IsOnce ys × ((x : X) → S x → Contains ys x))
        back ys h = (
          (
            counts_are_one S (length ys) (length xs) (ys, h, refl) (xs, all, refl),
            indexed ys (λ x there. (h.exact x).0 there),
          ),
          (h.once, λ x is. (h.exact x).1 is),
        )
