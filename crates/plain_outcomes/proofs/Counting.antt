-- How many things of a list have a property, and how many members a set has.
use Rattle.std.proofs.Common.{◌≡◌, ◌↔◌, inl, inr, ℕ, suc, ◌+◌, ◌<◌, ◌≤◌, List, [], ◌∷◌, ◌++◌, length, take, get_or, Contains, sym, subst, arith}
use Rattle.std.specs.List.{AllZip}
use Rattle.std.proofs.lemmas.List.{take_more, take_all}
use Rattle.meaning.specs.Sets.{Set, IsOnce, IsListOf, HasCount}
use Rattle.meaning.proofs.Counting.{here, behind, head_or_tail}
use Rattle.plain_runs.proofs.Listing.{none_there, once_none, once_cons, head_new, tail_once}
use Rattle.plain_outcomes.specs.States.{HaveCount}

-- ---- things of a list

module _ {A : Type 0} (P : A → Type 0) where
  have_one : (xs : List A) (a : A) (n : ℕ) → HaveCount P xs n → P a
      → HaveCount P (xs ++ a ∷ []) (n + 1)
  have_one [] a n none is = inl (is, (n, omega arith, none))
  have_one (x ∷ xs) a n (inl (p, (m, e, rest))) is =
      inl (p, (m + 1, omega (arith, e), have_one xs a m rest is))
  have_one (x ∷ xs) a n (inr (never, rest)) is = inr (never, have_one xs a n rest is)

  have_other : (xs : List A) (a : A) (n : ℕ) → HaveCount P xs n → (P a → ⊥)
      → HaveCount P (xs ++ a ∷ []) n
  have_other [] a n none never = inr (never, none)
  have_other (x ∷ xs) a n (inl (p, (m, e, rest))) never = inl (p, (m, e, have_other xs a m rest never))
  have_other (x ∷ xs) a n (inr (not, rest)) never = inr (not, have_other xs a n rest never)

  module _ (xs : List A) (k n : ℕ) (d : A) (lt : k < length xs)
      (before : HaveCount P (take k xs) n) where
    pub have_more : P (get_or xs k d) → HaveCount P (take (k + 1) xs) (n + 1)
    have_more is =
        subst (λ (l : List A). HaveCount P l (n + 1)) (sym (take_more xs k d lt))
        (have_one (take k xs) (get_or xs k d) n before is)

    pub have_as_many : (P (get_or xs k d) → ⊥) → HaveCount P (take (k + 1) xs) n
    have_as_many never =
        subst (λ (l : List A). HaveCount P l n) (sym (take_more xs k d lt))
        (have_other (take k xs) (get_or xs k d) n before never)

  pub have_all : (xs : List A) (k n : ℕ) → length xs ≤ k → HaveCount P (take k xs) n
      → HaveCount P xs n
  have_all xs k n le have =
      subst (λ (l : List A). HaveCount P l n) (take_all k xs le) have

  pub some_counted : (xs : List A) (n : ℕ) → HaveCount P xs n → (a : A) → Contains xs a → P a
      → 0 < n
  some_counted [] n none a there is = absurd (none_there a there)
  some_counted (x ∷ xs) n (inl (p, (m, e, rest))) a there is = omega (arith, e)
  some_counted (x ∷ xs) n (inr (never, rest)) a there is = elim (head_or_tail x xs a there) [
    | inl at ↦ absurd (never (subst P (sym at) is))
    | inr later ↦ some_counted xs n rest a later is
  ]

-- ---- two lists, one by one

module _ {X A : Type 0} (R : X → A → Type 0) where
  pub right_of : (xs : List X) (as_more : List A) → AllZip R xs as_more → (x : X) → Contains xs x
      → (a : A) × Contains as_more a × R x a
  right_of [] [] are x there = absurd (none_there x there)
  right_of [] (b ∷ bs) are x there = absurd are
  right_of (y ∷ xs) [] are x there = absurd are
  right_of (y ∷ xs) (b ∷ bs) are x there = elim (head_or_tail y xs x there) [
    | inl at ↦ (b, here b bs, subst (λ (z : X). R z b) at are.0)
    | inr later ↦
        let found : _ = right_of xs bs are.1 x later in
        (found.0, behind b bs found.0 found.1, found.2)
  ]

  pub left_of : (xs : List X) (as_more : List A) → AllZip R xs as_more → (a : A)
      → Contains as_more a → (x : X) × Contains xs x × R x a
  left_of [] [] are a there = absurd (none_there a there)
  left_of [] (b ∷ bs) are a there = absurd are
  left_of (y ∷ xs) [] are a there = absurd are
  left_of (y ∷ xs) (b ∷ bs) are a there = elim (head_or_tail b bs a there) [
    | inl at ↦ (y, here y xs, subst (λ (c : A). R y c) at are.0)
    | inr later ↦
        let found : _ = left_of xs bs are.1 a later in
        (found.0, behind y xs found.0 found.1, found.2)
  ]

  -- ---- a set whose members stand beside the things of a list

  module _ (P : X → Type 0) (Q : A → Type 0) (same : (x : X) (a : A) → R x a → Q a ↔ P x) where
    abbrev Part : List X → ℕ → Type 0
    Part xs n =
        (ys : List X) × IsOnce ys × ((x : X) → Contains ys x ↔ (Contains xs x × P x))
        × (n ≡ length ys)

    with_first : (x : X) (xs : List X) (n m : ℕ) → IsOnce (x ∷ xs) → P x → n ≡ suc m → Part xs m
        → Part (x ∷ xs) n
    with_first x xs n m once is e (ys, apart, exact, long) =
        (x ∷ ys, once_cons x ys new apart, λ z. (to z, back z), omega (arith, e, long))
      where
        new : Contains ys x → ⊥
        new there = head_new x xs once ((exact x).0 there).0

        to : (z : X) → Contains (x ∷ ys) z → Contains (x ∷ xs) z × P z
        to z there = elim (head_or_tail x ys z there) [
          | inl at ↦
              (subst (λ (w : X). Contains (x ∷ xs) w) at (here x xs), subst P at is)
          | inr later ↦
              let found : _ = (exact z).0 later in (behind x xs z found.0, found.1)
        ]

        back : (z : X) → Contains (x ∷ xs) z × P z → Contains (x ∷ ys) z
        back z (there, p) = elim (head_or_tail x xs z there) [
          | inl at ↦ subst (λ (w : X). Contains (x ∷ ys) w) at (here x ys)
          | inr later ↦ behind x ys z ((exact z).1 (later, p))
        ]

    without_first : (x : X) (xs : List X) (n : ℕ) → (P x → ⊥) → Part xs n → Part (x ∷ xs) n
    without_first x xs n never (ys, apart, exact, long) = (ys, apart, λ z. (to z, back z), long)
      where
        to : (z : X) → Contains ys z → Contains (x ∷ xs) z × P z
        to z there = let found : _ = (exact z).0 there in (behind x xs z found.0, found.1)

        back : (z : X) → Contains (x ∷ xs) z × P z → Contains ys z
        back z (there, p) = elim (head_or_tail x xs z there) [
          | inl at ↦ absurd (never (subst P (sym at) p))
          | inr later ↦ (exact z).1 (later, p)
        ]

    part : (xs : List X) (as_more : List A) (n : ℕ) → IsOnce xs → AllZip R xs as_more
        → HaveCount Q as_more n → Part xs n
    part [] [] n once are none =
        ([], once_none, λ z. ((λ there. absurd (none_there z there)), λ is. absurd (none_there z is.0)), none)
    part [] (a ∷ rest) n once are have = absurd are
    part (x ∷ xs) [] n once are have = absurd are
    part (x ∷ xs) (a ∷ rest) n once are (inl (q, (m, e, have))) =
        with_first x xs n m once ((same x a are.0).0 q) e
        (part xs rest m (tail_once x xs once) are.1 have)
    part (x ∷ xs) (a ∷ rest) n once are (inr (never, have)) =
        without_first x xs n (λ p. never ((same x a are.0).1 p))
        (part xs rest n (tail_once x xs once) are.1 have)

    pub counted : (S : Set X) (xs : List X) (as_more : List A) (n : ℕ) → IsListOf S xs
        → AllZip R xs as_more → HaveCount Q as_more n → HasCount (λ x. S x × P x) n
    counted S xs as_more n listed are have =
        let found : Part xs n = part xs as_more n listed.once are have in (
          found.0,
          record {
            once = found.1;
            exact = λ x. (
              (λ there. let is : _ = (found.2 x).0 there in ((listed.exact x).0 is.0, is.1)),
              λ is. (found.2 x).1 ((listed.exact x).1 is.0, is.1),
            );
          },
          found.3,
        )
