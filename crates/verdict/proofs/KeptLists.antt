-- Answers at indices, and the list of those that they keep.
use Rattle.std.proofs.Common.{ℕ, suc, ◌+◌, ◌<◌, ◌≤◌, Bool, true, false, ◌&&◌, ◌||◌, cond, ◌≡◌, List, [], ◌∷◌, length, map, filter, drop, refl, sym, ap, ◌∙◌, arith, add-zero}
use Rattle.std.specs.List.{AllByRecursion, list_any, enumerate_from}
use Rattle.std.specs.List.Sorted.{IsStrictlySortedBy}
use Rattle.std.specs.declared.cmp.Ordering.{Ordering}
use Rattle.std.specs.declared.cmp.Ordering.TheVariants.{Less}
use Rattle.std.proofs.lemmas.List.{get_or-drop}
use Rattle.outcome_states.specs.Counting.{count_kept}
use Rattle.outcome_states.specs.Kept.{holds_at, holds_on_some}
use Rattle.verdict.proofs.Spread.{how_many}
use Rattle.std.proofs.Math.Bool.{and-false}

-- a count by answers is one by what they say of indices
pub counted_by_indices : {X : Type 0} (q : ℕ → Bool) (test : X → Bool) (n : ℕ) (keep : List Bool)
    (xs : List X) → ((k : ℕ) → k < length xs → holds_at k keep ≡ q (n + k))
    → count_kept test keep xs ≡ how_many (λ x. q x.0 && test x.1) (enumerate_from n xs)
unfolding count_kept how_many
counted_by_indices q test n keep [] h = refl
counted_by_indices {X} q test n keep (x ∷ xs) h =
    let here : holds_at 0 keep ≡ q n = h 0 (omega arith) ∙ ap q (add-zero n) in
    let more : (k : ℕ) → k < length xs → holds_at k (drop 1 keep) ≡ q ((n + 1) + k) = λ k lt.
    let e : n + (1 + k) ≡ (n + 1) + k = omega arith in
    get_or-drop 1 keep k false ∙ h (1 + k) (omega arith) ∙ ap q e in
    ap (λ (b : Bool). cond (b && test x) 1 0 + count_kept test (drop 1 keep) xs) here
    ∙ ap (λ (m : ℕ). cond (q n && test x) 1 0 + m)
    (counted_by_indices q test (n + 1) (drop 1 keep) xs more)

bit_within : (b : Bool) (m n : ℕ) → m ≤ n → cond b 1 0 + m ≤ suc n
bit_within true m n h = omega arith
bit_within false m n h = omega arith

pub many_within : {X : Type 0} (p : ℕ × X → Bool) (n : ℕ) (xs : List X)
    → how_many p (enumerate_from n xs) ≤ length xs
unfolding how_many
many_within p n [] = omega arith
many_within p n (x ∷ xs) =
    bit_within (p (n, x)) (how_many p (enumerate_from (n + 1) xs)) (length xs)
    (many_within p (n + 1) xs)

any_cond : {X : Type 0} (p : X → Bool) (b : Bool) (x : X) (xs : List X)
    → list_any p (cond b (x ∷ xs) xs) ≡ ((b && p x) || list_any p xs)
any_cond p true x xs = refl
any_cond p false x xs = refl

no_answers : (keep : List Bool) → holds_on_some keep [] ≡ false
no_answers [] = refl
no_answers (b ∷ bs) = refl

-- some answer is true where all are kept
pub raised_by_indices : {X : Type 0} (q g : ℕ → Bool) (n : ℕ) (keep answers : List Bool)
    (xs : List X) → length keep ≡ length xs
    → ((k : ℕ) → k < length xs → holds_at k keep ≡ q (n + k))
    → ((k : ℕ) → holds_at k answers ≡ g (n + k))
    → holds_on_some keep answers ≡ list_any (λ x. g x.0) (filter (λ x. q x.0) (enumerate_from n xs))
raised_by_indices q g n [] answers [] long h a = refl
raised_by_indices q g n [] answers (x ∷ xs) long h a = absurd (omega (arith, long))
raised_by_indices q g n (b ∷ bs) answers [] long h a = absurd (omega (arith, long))
raised_by_indices {X} q g n (b ∷ bs) [] (x ∷ xs) long h a =
    let e : n + 0 ≡ n = add-zero n in
    let none : g n ≡ false = ap g (sym e) ∙ sym (a 0) in
    let rest : List (ℕ × X) = filter (λ x. q x.0) (enumerate_from (n + 1) xs) in
    let later : holds_on_some bs [] ≡ list_any (λ x. g x.0) rest = raised_by_indices q g (n + 1) bs [] xs (omega (arith, long))
    (λ k lt. let f : n + suc k ≡ (n + 1) + k = omega arith in h (suc k) (omega arith) ∙ ap q f)
    (λ k. let f : n + suc k ≡ (n + 1) + k = omega arith in a (suc k) ∙ ap g f) in
    sym (any_cond (λ x. g x.0) (q n) (n, x) rest
    ∙ ap (λ (c : Bool). (q n && c) || list_any (λ x. g x.0) rest) none
    ∙ ap (λ (c : Bool). c || list_any (λ x. g x.0) rest) (and-false (q n)) ∙ sym later
    ∙ no_answers bs)
raised_by_indices {X} q g n (b ∷ bs) (first ∷ others) (x ∷ xs) long h a =
    let e : n + 0 ≡ n = add-zero n in
    let kept : b ≡ q n = h 0 (omega arith) ∙ ap q e in
    let said : first ≡ g n = a 0 ∙ ap g e in
    let rest : List (ℕ × X) = filter (λ x. q x.0) (enumerate_from (n + 1) xs) in
    let later : holds_on_some bs others ≡ list_any (λ x. g x.0) rest = raised_by_indices q g (n + 1) bs others xs (omega (arith, long))
    (λ k lt. let f : n + suc k ≡ (n + 1) + k = omega arith in h (suc k) (omega arith) ∙ ap q f)
    (λ k. let f : n + suc k ≡ (n + 1) + k = omega arith in a (suc k) ∙ ap g f) in
    ap (λ (c : Bool). (c && first) || holds_on_some bs others) kept
    ∙ ap (λ (c : Bool). (q n && c) || holds_on_some bs others) said
    ∙ ap (λ (c : Bool). (q n && g n) || c) later
    ∙ sym (any_cond (λ x. g x.0) (q n) (n, x) rest)

below_read : {K L : Type 0} (f : K → L) (R : L → L → Ordering) (k : K) (ks : List K)
    → AllByRecursion (λ y. R (f k) (f y) ≡ Less) ks
    → AllByRecursion (λ y. R (f k) y ≡ Less) (map f ks)
below_read f R k [] h = h
below_read f R k (x ∷ xs) h = (h.0, below_read f R k xs h.1)

-- keys that rise by what is read of them
pub rising_read : {K L : Type 0} (f : K → L) (R : L → L → Ordering) (ks : List K)
    → IsStrictlySortedBy (λ x y. R (f x) (f y)) ks → IsStrictlySortedBy R (map f ks)
unfolding IsStrictlySortedBy
rising_read f R [] h = h
rising_read f R (k ∷ ks) h = (below_read f R k ks h.0, rising_read f R ks h.1)
