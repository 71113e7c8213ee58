-- Where runs of bytes end, and where strings do.
use Rattle.std.proofs.Common.{◌≡◌, ℕ, suc, ◌+◌, ◌<◌, ◌≤◌, ◌⊎◌, inl, inr, Bool, true, false, List, [], ◌∷◌, ◌++◌, length, get_or, take, drop, refl, sym, ap, ◌∙◌, arith}
use Rattle.std.specs.Prelude.{slice_index, ◌==◌, ◌&&◌, ◌||◌, not, if◌then◌else◌}
use Rattle.std.specs.List.{position_or_len}
use Rattle.std.proofs.lemmas.Bool.{cases_lt}
use Rattle.std.proofs.lemmas.Bool.Decides.{nat_tests}
use Rattle.std.proofs.lemmas.List.{length-take, length-append, get_or-take, get_or_append_left, take_more}
use Rattle.std.proofs.lemmas.List.Sums.{fails_before_first, passes_at_first, prefix_len-le-length, position_or_len_is}
use Rattle.text_values.specs.Layout.{is_quote}
use Rattle.text_laws.specs.Comments.{LacksQuote}
use Rattle.text_laws.proofs.Nesting.{equal}

pub other : (b c : ℕ) → (b ≡ c → ⊥) → (b == c) ≡ false
other b c h = grind (arith, nat_tests)

pub clash : (x : Bool) → x ≡ true → not x ≡ true → ⊥
clash true e k = absurd cc
clash false e k = absurd cc

pub opposite : (x : Bool) → x ≡ true → x ≡ false → ⊥
opposite x e k =
    let bad : true ≡ false = sym e ∙ k in
    absurd cc

pub equals : (a b : ℕ) → a ≡ b → (a == b) ≡ true
equals a b h = grind (arith, nat_tests)

pub less : (p n : ℕ) → p ≤ n → (p == n) ≡ false → p < n
less p n le e = grind (arith, nat_tests)

pub cons_of : (q : ℕ) (bs : List ℕ) → slice_index bs 0 ≡ suc q → bs ≡ suc q ∷ drop 1 bs
cons_of q [] e = absurd (omega arith)
cons_of q (b ∷ bs) e = ap (λ (k : ℕ). k ∷ bs) e

pub next_of : (bs : List ℕ) → slice_index bs 1 ≡ slice_index (drop 1 bs) 0
next_of [] = refl
next_of (b ∷ bs) = refl

-- the first byte that passes a test is past one that fails
pub pos_some : (p : ℕ → Bool) (b : ℕ) (bs : List ℕ) → p b ≡ false → 0 < position_or_len p (b ∷ bs)
pos_some p b bs fails = by_size (cases_lt 0 (position_or_len p (b ∷ bs)))
  where
    by_size : (0 < position_or_len p (b ∷ bs)) ⊎ (position_or_len p (b ∷ bs) ≤ 0)
        → 0 < position_or_len p (b ∷ bs)
    by_size (inl lt) = lt
    by_size (inr le) =
        let none : position_or_len p (b ∷ bs) ≡ 0 = omega arith in
        let passes : p (get_or (b ∷ bs) (position_or_len p (b ∷ bs)) 0) ≡ true = passes_at_first p (b ∷ bs) 0 (omega arith) in
        absurd (opposite (p b) (ap (λ (k : ℕ). p (get_or (b ∷ bs) k 0)) (sym none) ∙ passes) fails)

pub pos_le : (p : ℕ → Bool) (xs : List ℕ) → position_or_len p xs ≤ length xs
pos_le p xs = prefix_len-le-length (λ x. not (p x)) xs

pub first_in_take : (n b : ℕ) (bs : List ℕ) → 0 < n → slice_index (take n (b ∷ bs)) 0 ≡ b
first_in_take n b bs some = get_or-take n (b ∷ bs) 0 0 some

pub second_in_take : (n b : ℕ) (bs : List ℕ) → 1 < n
    → slice_index (take n (b ∷ bs)) 1 ≡ slice_index bs 0
second_in_take n b bs some = get_or-take n (b ∷ bs) 1 0 some

-- the tests on two bytes are those on what they begin
pub two_kept : (p q n b : ℕ) (bs : List ℕ) → 1 < n → (b == p && slice_index bs 0 == q) ≡ true
    → (slice_index (take n (b ∷ bs)) 0 == p && slice_index (take n (b ∷ bs)) 1 == q) ≡ true
two_kept p q n b bs some h =
    ap (λ (x : ℕ). x == p && slice_index (take n (b ∷ bs)) 1 == q)
    (first_in_take n b bs (omega arith))
    ∙ ap (λ (x : ℕ). b == p && x == q) (second_in_take n b bs some) ∙ h

pub inside_fits : (bs inside others : List ℕ) → LacksQuote inside → inside ++ 34 ∷ others ≡ bs
    → position_or_len is_quote bs < length bs → length inside ≤ position_or_len is_quote bs
inside_fits bs inside others lacks e some =
    by_size (cases_lt (position_or_len is_quote bs) (length inside))
  where
    by_size : (position_or_len is_quote bs < length inside)
        ⊎ (length inside ≤ position_or_len is_quote bs)
        → length inside ≤ position_or_len is_quote bs
    by_size (inr le) = le
    by_size (inl lt) =
        let p = position_or_len is_quote bs in
        let quote : is_quote (get_or bs p 0) ≡ true = passes_at_first is_quote bs 0 some in
        let none : is_quote (get_or bs p 0) ≡ false = ap (λ (xs : List ℕ). is_quote (get_or xs p 0)) (sym e) ∙ ap is_quote (get_or_append_left inside (34 ∷ others) 0 p lt) ∙ lacks p lt in
        absurd (opposite (is_quote (get_or bs p 0)) quote none)

pub lacks_before : (bs : List ℕ) → LacksQuote (take (position_or_len is_quote bs) bs)
lacks_before bs k lt =
    let l = length-take (position_or_len is_quote bs) bs in
    ap is_quote (get_or-take (position_or_len is_quote bs) bs k 0 (omega arith))
    ∙ fails_before_first is_quote bs k 0 (omega arith)

pub string_text : (bs : List ℕ) → position_or_len is_quote bs < length bs
    → take (position_or_len is_quote bs + 2) (34 ∷ bs)
    ≡ 34 ∷ (take (position_or_len is_quote bs) bs ++ 34 ∷ [])
string_text bs some =
    let p = position_or_len is_quote bs in
    let quote : get_or bs p 0 ≡ 34 = equal (get_or bs p 0) 34 (passes_at_first is_quote bs 0 some) in
    ap (λ (n : ℕ). take n (34 ∷ bs)) (let more : p + 2 ≡ suc (p + 1) = omega arith in more)
    ∙ ap (λ (xs : List ℕ). 34 ∷ xs) (take_more bs p 0 some
    ∙ ap (λ (x : ℕ). take p bs ++ x ∷ []) quote)

-- by a test
pub tested : {A : Type 0} (P : A → Type 0) (b : Bool) (x y : A) → (b ≡ true → P x)
    → (b ≡ false → P y) → P (if b then x else y)
tested P true x y p q = p refl
tested P false x y p q = q refl

pub or_first : (x y : Bool) → (x || y) ≡ false → x ≡ false
or_first true y e = absurd cc
or_first false y e = refl

pub or_second : (x y : Bool) → (x || y) ≡ false → y ≡ false
or_second true y e = absurd cc
or_second false y e = e

pub seam : (xs ys : List ℕ) → get_or (xs ++ ys) (length xs) 0 ≡ get_or ys 0 0
seam [] ys = refl
seam (x ∷ xs) ys = seam xs ys

pub when_true : {A : Type 0} (x : Bool) (a b : A) → x ≡ true → (if x then a else b) ≡ a
when_true x a b e = ap (λ (y : Bool). if y then a else b) e

pub when_false : {A : Type 0} (x : Bool) (a b : A) → x ≡ false → (if x then a else b) ≡ b
when_false x a b e = ap (λ (y : Bool). if y then a else b) e

-- where the first quote stands
pub quote_size : (inside rest : List ℕ) → LacksQuote inside
    → position_or_len is_quote (inside ++ 34 ∷ rest) ≡ length inside
quote_size inside rest lacks =
    let l = length-append inside (34 ∷ rest) in
    position_or_len_is is_quote (inside ++ 34 ∷ rest) (length inside) 0 (omega arith)
    (λ k lt. ap is_quote (get_or_append_left inside (34 ∷ rest) 0 k lt) ∙ lacks k lt)
    (λ _. ap is_quote (seam inside (34 ∷ rest)))

pub open_size : (inside : List ℕ) → LacksQuote inside
    → position_or_len is_quote inside ≡ length inside
open_size inside lacks =
    position_or_len_is is_quote inside (length inside) 0 (omega arith) (λ k lt. lacks k lt)
    (λ lt. absurd (omega arith))
