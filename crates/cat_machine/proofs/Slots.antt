-- The slots of a stack, seen the uppermost first.
use Rattle.std.proofs.Common.{ℕ, ◌≡◌, ◌<◌, ◌≤◌, ◌+◌, ◌-◌, ◌++◌, ◌∙◌, sym, ap, subst, refl, arith, List, [], ◌∷◌, length, take, reverse, get_or, set, add-one}
use Rattle.std.proofs.lemmas.List.{take_more_set, reverse-append, set-append_left, get_or_append_left, get_or_read}
use Rattle.std.proofs.Math.Seq.{get_or-append_right, take-suc}
use mathlib.Core.List.{head-eq_of_cons-eq, tail-eq_of_cons-eq}
use Rattle.bit_rows.specs.Relation.{Relation, no_slot}

-- a slot is written, and comes into use
pub pushed : (old new : List Relation) (i : ℕ) (y : Relation) → i < length new
    → take i new ≡ take i old → reverse (take (i + 1) (set new i y)) ≡ y ∷ reverse (take i old)
pushed old new i y lt same =
    rw (take_more_set new i y lt, reverse-append (take i new) (y ∷ []), same) refl

heads : {X : Type 0} (x y : X) (xs ys : List X) → (x ∷ xs) ≡ (y ∷ ys) → (x ≡ y) × (xs ≡ ys)
heads x y xs ys e = (head-eq_of_cons-eq e, tail-eq_of_cons-eq e)

-- the uppermost slot in use
top_at : (xs : List Relation) (i : ℕ) (s : Relation) (rest : List Relation) → i < length xs
    → reverse (take (i + 1) xs) ≡ s ∷ rest
    → (get_or xs i no_slot ≡ s) × (reverse (take i xs) ≡ rest)
top_at xs i s rest lt e =
    let grown : take (i + 1) xs ≡ take i xs ++ get_or xs i no_slot ∷ [] = rw (add-one i) (take-suc xs i no_slot lt) in
    let whole : reverse (take (i + 1) xs) ≡ get_or xs i no_slot ∷ reverse (take i xs) = rw (grown, reverse-append (take i xs) (get_or xs i no_slot ∷ [])) refl in
    heads _ _ _ _ (sym whole ∙ e)

pub top_is : (xs : List Relation) (live : ℕ) (s : Relation) (rest : List Relation) → 1 ≤ live
    → live ≤ length xs → reverse (take live xs) ≡ s ∷ rest
    → (get_or xs (live - 1) no_slot ≡ s) × (reverse (take (live - 1) xs) ≡ rest)
top_is xs live s rest some inside e =
    let more : live ≡ live - 1 + 1 = omega (arith, some) in
    top_at xs (live - 1) s rest (omega (arith, some, inside))
    (subst (λ (n : ℕ). reverse (take n xs) ≡ s ∷ rest) more e)

pub two_are : (xs : List Relation) (live : ℕ) (s r : Relation) (rest : List Relation) → 2 ≤ live
    → live ≤ length xs → reverse (take live xs) ≡ s ∷ r ∷ rest
    → (get_or xs (live - 1) no_slot ≡ s) × (get_or xs (live - 2) no_slot ≡ r)
    × (reverse (take (live - 2) xs) ≡ rest)
two_are xs live s r rest two inside e =
    let first = top_is xs live s (r ∷ rest) (omega (arith, two)) inside e in
    let less : live - 1 - 1 ≡ live - 2 = omega arith in
    let second = top_is xs (live - 1) r rest (omega (arith, two)) (omega (arith, inside)) first.1 in (
      first.0,
      subst (λ (n : ℕ). get_or xs n no_slot ≡ r) less second.0,
      subst (λ (n : ℕ). reverse (take n xs) ≡ rest) less second.1,
    )

-- the slot below the uppermost is written, and the uppermost goes out of use
pub merged : (xs : List Relation) (live : ℕ) (y : Relation) → 2 ≤ live → live ≤ length xs
    → reverse (take (live - 1) (set xs (live - 2) y)) ≡ y ∷ reverse (take (live - 2) xs)
merged xs live y two inside =
    let more : live - 2 + 1 ≡ live - 1 = omega (arith, two) in
    subst (λ (n : ℕ). reverse (take n (set xs (live - 2) y)) ≡ y ∷ reverse (take (live - 2) xs))
    more
    (pushed xs xs (live - 2) y (omega (arith, two, inside)) refl)

-- the two uppermost slots in use, where the lower one ends the prefix and the upper one begins the
-- back
pub parted : (F : Relation → Relation → Relation → Type 0) (slots prefix back : List Relation)
    (live : ℕ) (v w r : Relation) → 2 ≤ live → slots ≡ prefix ++ back → length prefix ≡ live - 1
    → 0 < length back → v ≡ get_or prefix (live - 2) v → w ≡ get_or back 0 w → F r v w
    → (x : Relation) × (set prefix (live - 2) r ++ back ≡ set slots (live - 2) x)
    × F x (get_or slots (live - 2) no_slot) (get_or slots (live - 1) no_slot)
parted F slots prefix back live v w r two whole long some left right is =
    let inside : live - 2 < length prefix = omega (arith, long, two) in
    let lower : v ≡ get_or slots (live - 2) no_slot =
    get_or_read prefix (live - 2) v inside left no_slot
    ∙ sym (rw whole (get_or_append_left prefix back no_slot (live - 2) inside)) in
    let past : length prefix ≤ live - 1 = omega (arith, long) in
    let none : live - 1 - length prefix ≡ 0 = omega (arith, long) in
    let upper : w ≡ get_or slots (live - 1) no_slot =
    get_or_read back 0 w some right no_slot
    ∙ sym
    (rw whole (get_or-append_right prefix back (live - 1) no_slot past
    ∙ ap (λ (i : ℕ). get_or back i no_slot) none)) in
    (r, rw whole (sym (set-append_left prefix back (live - 2) r inside)), rw (← lower, ← upper) is)
