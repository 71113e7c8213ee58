-- A string says the bytes that it was made from, and is printable.
use Rattle.std.proofs.Common.{◌≡◌, ℕ, suc, ◌+◌, ◌*◌, ◌/◌, ◌%◌, ◌<◌, List, [], ◌∷◌, ◌++◌, inl, inr, true, false, refl, sym, ap, subst, ◌∙◌, append_assoc, arith}
use Rattle.std.specs.Prelude.{◌==◌, ◌||◌, All, codes}
use Rattle.std.specs.List.{list_all, flat_map, AllPass}
use Rattle.std.proofs.lemmas.Bool.{cond_both, cond-true, cond-false, and_from, or_cases, or_parts, eqb-true}
use Rattle.std.proofs.lemmas.List.{append-nil}
use Rattle.std.proofs.lemmas.List.Folds.{list_all-append}
use Rattle.std.proofs.lemmas.List.Sums.{fold-append, AllPass-from_list_all}
use Rattle.escaped_texts.specs.Strings.{is_ascii_printable, hex_digit, string_byte, string_text}
use Rattle.escaped_texts.specs.Reading.{Inside, Escape, plus_digit, string_step, string_behind, IsStringOf}
use Rattle.escaped_texts.proofs.Digits.{high_digit, low_digit, both_digits, digit_is_read, digit_is_printable}

abbrev pub number_text : ℕ → List ℕ
number_text b = codes "\\u00" ++ hex_digit (b / 16) ∷ hex_digit (b % 16) ∷ []

number_says : (said : List ℕ) (b : ℕ) → b < 256
    → string_behind (Inside said) (number_text b) ≡ Inside (said ++ b ∷ [])
number_says said b small =
    ap (λ d. string_step (plus_digit said 2 (16 * 0) d) (hex_digit (b % 16)))
    (digit_is_read (b / 16) (high_digit b small))
    ∙ ap (λ d. plus_digit said 1 (16 * 0 + b / 16) d) (digit_is_read (b % 16) (low_digit b))
    ∙ ap (λ n. Inside (said ++ n ∷ [])) (both_digits b)

pair_says : (said : List ℕ) (b : ℕ) → (b == 34 || b == 92) ≡ true
    → string_behind (Inside said) (92 ∷ b ∷ []) ≡ Inside (said ++ b ∷ [])
pair_says said b is =
    let IsSaid : ℕ → Type 0 = λ k. string_step (Escape said) k ≡ Inside (said ++ k ∷ []) in
    elim (or_cases (b == 34) (b == 92) is) [
      | inl quote ↦ subst IsSaid (sym (eqb-true b 34 quote)) refl
      | inr backslash ↦ subst IsSaid (sym (eqb-true b 92 backslash)) refl
    ]

one_says : (said : List ℕ) (b : ℕ) → (b == 34 || b == 92) ≡ false → is_ascii_printable b ≡ true
    → string_behind (Inside said) (b ∷ []) ≡ Inside (said ++ b ∷ [])
one_says said b neither printable =
    let parts = or_parts (b == 34) (b == 92) neither in
    cond-false (b == 34) _ _ parts.0 ∙ cond-false (b == 92) _ _ parts.1
    ∙ cond-true (is_ascii_printable b) _ _ printable

byte_says : (said : List ℕ) (b : ℕ) → b < 256
    → string_behind (Inside said) (string_byte b) ≡ Inside (said ++ b ∷ [])
unfolding string_byte
byte_says said b small =
    let IsSaid : List ℕ → Type 0 = λ t. string_behind (Inside said) t ≡ Inside (said ++ b ∷ []) in
    cond_both (b == 34 || b == 92) _ _ IsSaid (λ is. pair_says said b is) (λ neither.
    cond_both (is_ascii_printable b) _ _ IsSaid
    (λ printable. one_says said b neither printable) (λ _. number_says said b small))

all_but_first : (P : ℕ → Type 0) (b : ℕ) (bs : List ℕ) → All P (b ∷ bs) → All P bs
all_but_first P b bs each = λ k d inside. each (suc k) d (omega (arith, inside))

bytes_say : (said bytes : List ℕ) → All (λ b. b < 256) bytes
    → string_behind (Inside said) (flat_map string_byte bytes) ≡ Inside (said ++ bytes)
bytes_say said [] small = ap Inside (sym (append-nil said))
bytes_say said (b ∷ bs) small =
    fold-append string_step (Inside said) (string_byte b) (flat_map string_byte bs)
    ∙ ap (λ r. string_behind r (flat_map string_byte bs)) (byte_says said b (small 0 0 (omega arith)))
    ∙ bytes_say (said ++ b ∷ []) bs (all_but_first (λ n. n < 256) b bs small)
    ∙ ap Inside (append_assoc said (b ∷ []) bs)

pub string_says : (bytes : List ℕ) → All (λ b. b < 256) bytes → IsStringOf (string_text bytes) bytes
unfolding string_text
string_says bytes small =
    fold-append string_step (Inside []) (flat_map string_byte bytes) (codes "\"")
    ∙ ap (λ r. string_behind r (codes "\"")) (bytes_say [] bytes small)

-- ---- all of it is printable

quoted_is_printable : (b : ℕ) → (b == 34 || b == 92) ≡ true
    → list_all is_ascii_printable (92 ∷ b ∷ []) ≡ true
quoted_is_printable b is =
    let IsPrinted : ℕ → Type 0 = λ k. list_all is_ascii_printable (92 ∷ k ∷ []) ≡ true in
    elim (or_cases (b == 34) (b == 92) is) [
      | inl quote ↦ subst IsPrinted (sym (eqb-true b 34 quote)) refl
      | inr backslash ↦ subst IsPrinted (sym (eqb-true b 92 backslash)) refl
    ]

number_is_printable : (b : ℕ) → b < 256 → list_all is_ascii_printable (number_text b) ≡ true
number_is_printable b small =
    and_from (is_ascii_printable (hex_digit (b / 16))) _
    (digit_is_printable (b / 16) (high_digit b small))
    (and_from (is_ascii_printable (hex_digit (b % 16))) true
    (digit_is_printable (b % 16) (low_digit b)) refl)

byte_is_printable : (b : ℕ) → b < 256 → list_all is_ascii_printable (string_byte b) ≡ true
unfolding string_byte
byte_is_printable b small =
    let ArePrinted : List ℕ → Type 0 = λ t. list_all is_ascii_printable t ≡ true in
    cond_both (b == 34 || b == 92) _ _ ArePrinted (λ is. quoted_is_printable b is) (λ neither.
    cond_both (is_ascii_printable b) _ _ ArePrinted
    (λ printable. and_from (is_ascii_printable b) true printable refl) (λ _. number_is_printable b small))

bytes_are_printable : (bytes : List ℕ) → All (λ b. b < 256) bytes
    → list_all is_ascii_printable (flat_map string_byte bytes) ≡ true
bytes_are_printable [] small = refl
bytes_are_printable (b ∷ bs) small =
    list_all-append is_ascii_printable (string_byte b) (flat_map string_byte bs)
    ∙ and_from _ _ (byte_is_printable b (small 0 0 (omega arith)))
    (bytes_are_printable bs (all_but_first (λ n. n < 256) b bs small))

pub string_is_printable : (bytes : List ℕ) → All (λ b. b < 256) bytes
    → AllPass is_ascii_printable (string_text bytes)
unfolding string_text
string_is_printable bytes small =
    AllPass-from_list_all is_ascii_printable (codes "\"" ++ flat_map string_byte bytes ++ codes "\"")
    (list_all-append is_ascii_printable (flat_map string_byte bytes) (codes "\"")
    ∙ and_from _ _ (bytes_are_printable bytes small) refl)
