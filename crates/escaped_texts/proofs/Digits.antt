-- The two digits of a byte.
use Rattle.std.proofs.Common.{◌≡◌, ℕ, ◌+◌, ◌-◌, ◌*◌, ◌/◌, ◌%◌, ◌<◌, ◌≤◌, true, false, ap, ◌∙◌, arith}
use Rattle.std.specs.Prelude.{◌&&◌, nat_lt, nat_le, Some}
use Rattle.std.proofs.Math.Nat.{div-add-mod, mod-lt, div-lt_iff_lt-mul}
use Rattle.std.proofs.lemmas.Bool.{cond_both, cond-true, cond-false, and_from, and_right, lt-leb, le-leb, ltb-true, ltb-false}
use Rattle.escaped_texts.specs.Strings.{hex_digit, is_ascii_printable}
use Rattle.escaped_texts.specs.Reading.{digit_value}

pub high_digit : (b : ℕ) → b < 256 → b / 16 < 16
high_digit b small = (div-lt_iff_lt-mul {k = 16} {x = b} {y = 16} (omega arith)).1 small

pub low_digit : (b : ℕ) → b % 16 < 16
low_digit b = mod-lt b (omega arith)

pub both_digits : (b : ℕ) → 16 * (16 * 0 + b / 16) + b % 16 ≡ b
both_digits b = let whole = div-add-mod b 16 in omega (arith, whole)

-- a digit of the first ten, or of the other six, is printable and has its value
figure_value : (n : ℕ) → n < 10 → digit_value (48 + n) ≡ Some n
figure_value n small =
    let from : nat_le 48 (48 + n) ≡ true = le-leb 48 (48 + n) (omega arith) in
    let to : nat_le (48 + n) 57 ≡ true = le-leb (48 + n) 57 (omega (arith, small)) in
    let value : (48 + n) - 48 ≡ n = omega arith in
    cond-true (nat_le 48 (48 + n) && nat_le (48 + n) 57) _ _ (and_from _ _ from to) ∙ ap Some value

letter_value : (b : ℕ) → 97 ≤ b → b < 103 → digit_value b ≡ Some (b - 87)
letter_value b low high =
    let none : nat_le b 57 ≡ false = lt-leb b 57 (omega (arith, low)) in
    let from : nat_le 97 b ≡ true = le-leb 97 b low in
    let to : nat_le b 102 ≡ true = le-leb b 102 (omega (arith, high)) in
    cond-false (nat_le 48 b && nat_le b 57) _ _ (and_right (nat_le 48 b) (nat_le b 57) none)
    ∙ cond-true (nat_le 97 b && nat_le b 102) _ _ (and_from _ _ from to)

pub digit_is_read : (n : ℕ) → n < 16 → digit_value (hex_digit n) ≡ Some n
digit_is_read n small =
    cond_both (nat_lt n 10) (48 + n) (97 + (n - 10)) (λ d. digit_value d ≡ Some n)
    (λ first. figure_value n (ltb-true n 10 first))
    (λ second.
    let above : 10 ≤ n = ltb-false n 10 second in
    let value : (97 + (n - 10)) - 87 ≡ n = omega (arith, above) in
    letter_value (97 + (n - 10)) (omega arith) (omega (arith, small, above)) ∙ ap Some value)

within : (b : ℕ) → 32 ≤ b → b ≤ 126 → is_ascii_printable b ≡ true
within b low high = and_from _ _ (le-leb 32 b low) (le-leb b 126 high)

pub digit_is_printable : (n : ℕ) → n < 16 → is_ascii_printable (hex_digit n) ≡ true
digit_is_printable n small =
    cond_both (nat_lt n 10) (48 + n) (97 + (n - 10)) (λ d. is_ascii_printable d ≡ true)
    (λ first.
    let below : n < 10 = ltb-true n 10 first in
    within (48 + n) (omega arith) (omega (arith, below)))
    (λ second. within (97 + (n - 10)) (omega arith) (omega (arith, small)))
