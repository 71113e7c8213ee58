-- No two events have one name.
use Rattle.std.proofs.Common.{ℕ, ◌≡◌, ◌<◌, ◌+◌, ◌-◌, ◌/◌, ◌%◌, ◌^◌, ◌∙◌, Bool, true, false, nat_lt, if◌then◌else◌, List, [], ◌∷◌, ◌++◌, length, get_or, drop, ap, sym, refl, arith}
use Rattle.std.specs.Prelude.{decimal, codes}
use Rattle.std.proofs.lemmas.Fmt.{decimal_injective, decimal_nonempty}
use Rattle.why_text.specs.Events.{event_name, lettered}

head_is : (x y : ℕ) (xs ys : List ℕ) → x ∷ xs ≡ y ∷ ys → x ≡ y
head_is x y xs ys e = ap (λ (l : List ℕ). get_or l 0 0) e

tail_is : (x y : ℕ) (xs ys : List ℕ) → x ∷ xs ≡ y ∷ ys → xs ≡ ys
tail_is x y xs ys e = ap (λ (l : List ℕ). drop 1 l) e

below_26 : (n : ℕ) → nat_lt n 26 ≡ true → n / 26 ≡ 0
below_26 n e = grind arith

number_behind : (n : ℕ) → n < 2 ^ 64 → 0 < length (decimal (n / 26))
number_behind n lt = decimal_nonempty (n / 26) (omega arith)

-- what stands behind the letters
behind_is : (m n : ℕ) (a b : Bool) → nat_lt m 26 ≡ a → nat_lt n 26 ≡ b → m < 2 ^ 64 → n < 2 ^ 64
    → (if a then [] else decimal (m / 26)) ≡ (if b then [] else decimal (n / 26)) → m / 26 ≡ n / 26
behind_is m n true true s t lm ln e = below_26 m s ∙ sym (below_26 n t)
behind_is m n true false s t lm ln e =
    let some = number_behind n ln in
    let none : 0 ≡ length (decimal (n / 26)) = ap length e in omega arith
behind_is m n false true s t lm ln e =
    let some = number_behind m lm in
    let none : length (decimal (m / 26)) ≡ 0 = ap length e in omega arith
behind_is m n false false s t lm ln e =
    decimal_injective (m / 26) (n / 26) (omega arith) (omega arith) e

lettered_apart : (m n : ℕ) → m < 2 ^ 64 → n < 2 ^ 64 → lettered m ≡ lettered n → m ≡ n
lettered_apart m n lm ln e =
    let letter : 97 + m % 26 ≡ 97 + n % 26 = head_is _ _ _ _ e in
    let behind : m / 26 ≡ n / 26 = behind_is m n (nat_lt m 26) (nat_lt n 26) refl refl lm ln (tail_is _ _ _ _ e) in
    omega arith

-- a small letter is no `I`
no_letter : (j k n : ℕ) (xs : List ℕ) → 73 ∷ xs ≡ lettered n → j ≡ k
no_letter j k n xs e = let same : 73 ≡ 97 + n % 26 = head_is _ _ _ _ e in omega arith

named_apart : (initial m n : ℕ) (a b : Bool) → nat_lt m initial ≡ a → nat_lt n initial ≡ b
    → m < 2 ^ 64 → n < 2 ^ 64
    → (if a then codes "I" ++ decimal m else lettered (m - initial))
    ≡ (if b then codes "I" ++ decimal n else lettered (n - initial)) → m ≡ n
named_apart initial m n true true s t lm ln e =
    decimal_injective m n lm ln (tail_is 73 73 (decimal m) (decimal n) e)
named_apart initial m n true false s t lm ln e = no_letter m n (n - initial) (decimal m) e
named_apart initial m n false true s t lm ln e = no_letter m n (m - initial) (decimal n) (sym e)
named_apart initial m n false false s t lm ln e =
    let same = lettered_apart (m - initial) (n - initial) (omega arith) (omega arith) e in
    grind arith

pub names_apart : (initial m n : ℕ) → m < 2 ^ 64 → n < 2 ^ 64
    → event_name initial m ≡ event_name initial n → m ≡ n
unfolding event_name
names_apart initial m n lm ln e =
    named_apart initial m n (nat_lt m initial) (nat_lt n initial) refl refl lm ln e
