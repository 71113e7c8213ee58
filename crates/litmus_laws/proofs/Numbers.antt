-- Words, numbers and registers, as they are read.
use Rattle.std.proofs.Common.{sym, ◌≡◌, ℕ, zero, suc, ◌<◌, ◌^◌, Bool, true, false, List, [], ◌∷◌, ◌++◌, length, get_or, take, refl, ap, ◌∙◌, arith, rules}
use Rattle.std.specs.Prelude.{if◌then◌else◌, ◌==◌, ◌||◌, ◌&&◌, nat_le, nat_lt, not, slice_index, Some, None, ℤ, pos, negsuc}
use Rattle.std.specs.List.{position_or_len}
use Rattle.std.specs.Fmt.{decimal, signed_decimal}
use Rattle.std.proofs.lemmas.Bool.{both_ways, and_parts, and_from, or_right, lt-ltb}
use Rattle.std.proofs.lemmas.Bool.Decides.{nat_tests}
use Rattle.std.proofs.lemmas.List.{length-append, get_or_append_left, take_at}
use Rattle.std.proofs.lemmas.List.Sums.{position_or_len_is}
use Rattle.std.proofs.lemmas.Fmt.{digits_decimal, digits_value-decimal, decimal_nonempty, first_decimal, decimal_digit}
use Rattle.std.proofs.lemmas.Str.Parse.{IsNumeralModel, numerals_by_fold}
use Rattle.litmus_tokens.specs.declared.stage.Stage.TheVariants.{Tail}
use Rattle.litmus_tokens.specs.declared.token.Token.TheVariants as tokens
use Rattle.litmus_tokens.specs.declared.lexer.NextLexeme.TheVariants.{Layout, Lexeme}
use Rattle.litmus_tokens.specs.Words as words
use Rattle.litmus_tokens.specs.Words.{are_digits, is_plain, is_empty, decimal_from, signed, is_int, register_of}
use Rattle.text_values.specs.Letters.{is_letter, is_digit}
use Rattle.litmus_tokens.specs.Lexer.{is_word_byte, ends_word, ends_digits, significant, first_lexeme, word_lexeme, number_lexeme, minus_lexeme, sign_lexeme}
use Rattle.litmus_printing.specs.Printing.{register_text}
use Rattle.text_laws.proofs.Runs.{seam, other}
use Rattle.litmus_laws.specs.Written.{IsWord, IsNumber}
use Rattle.litmus_laws.proofs.Read.{InnerPart, inner, inner_turn, word_stays, number_stays, first_of, digit_of, word_byte}

-- ---- words

pub word_len : (n bs : List ℕ) → IsWord n → ends_word (slice_index bs 0) ≡ true
    → position_or_len ends_word (n ++ bs) ≡ length n
word_len n bs h e =
    let l = length-append n bs in
    position_or_len_is ends_word (n ++ bs) (length n) 0 (omega arith)
    (λ k lt. ap ends_word (get_or_append_left n bs 0 k lt) ∙ ap not (h.each k lt))
    (λ _. ap ends_word (seam n bs) ∙ e)

pub second_test : {A : Type 0} (x y : Bool) (a b z : A) → x ≡ false → y ≡ true
    → (if x then a else (if y then b else z)) ≡ b
second_test x y a b z p q =
    ap (λ (t : Bool). if t then a else (if y then b else z)) p
    ∙ ap (λ (t : Bool). if t then b else z) q

pub word_here : (c : ℕ) (cs bs : List ℕ) → IsWord (c ∷ cs) → ends_word (slice_index bs 0) ≡ true
    → first_lexeme Tail false (c ∷ (cs ++ bs)) ≡ Lexeme (tokens.Word (c ∷ cs)) (length (c ∷ cs))
word_here c cs bs h e =
    let o = first_of c h.first in
    let l = o.low in
    word_byte Tail c (cs ++ bs) o
    ∙ second_test (c == 10) (is_letter c || c == 95) (Layout 1)
    (word_lexeme Tail ((c ∷ cs) ++ bs) (position_or_len ends_word ((c ∷ cs) ++ bs))) _
    (other c 10 (λ x. absurd (omega arith))) h.first
    ∙ ap (word_lexeme Tail ((c ∷ cs) ++ bs)) (word_len (c ∷ cs) bs h e)
    ∙ ap (λ (t : List ℕ). Lexeme (tokens.Word t) (length (c ∷ cs)))
    (take_at (c ∷ cs) bs (length (c ∷ cs)) refl)

pub word : (w : InnerPart) (n bs : List ℕ) → IsWord n → ends_word (slice_index bs 0) ≡ true
    → inner w (n ++ bs) ≡ tokens.Word n ∷ inner w bs
word w [] bs h e = let bad : false ≡ true = h.first in absurd cc
word w (c ∷ cs) bs h e =
    inner_turn w c cs bs (tokens.Word (c ∷ cs)) (word_stays w (c ∷ cs)) (word_here c cs bs h e)

-- ---- digits

pub own : IsNumeralModel (λ ds. are_digits ds ≡ true) (decimal_from 0)
own = numerals_by_fold (λ ds. are_digits ds ≡ true) (search rules) decimal_from (search rules)

pub are_back : (n : ℕ) → n < 2 ^ 64 → are_digits (decimal n) ≡ true
are_back n h = digits_decimal own n h

pub value_back : (n : ℕ) → n < 2 ^ 64 → words.decimal (decimal n) ≡ n
value_back n h = digits_value-decimal own n h

digits_len : (ds bs : List ℕ) → are_digits ds ≡ true → ends_digits (slice_index bs 0) ≡ true
    → position_or_len ends_digits (ds ++ bs) ≡ length ds
digits_len ds bs h e =
    let l = length-append ds bs in
    position_or_len_is ends_digits (ds ++ bs) (length ds) 0 (omega arith)
    (λ k lt. ap ends_digits (get_or_append_left ds bs 0 k lt) ∙ ap not (each ds h k lt))
    (λ _. ap ends_digits (seam ds bs) ∙ e)
  where
    each : (ds : List ℕ) → are_digits ds ≡ true → (k : ℕ) → k < length ds
        → is_digit (get_or ds k 0) ≡ true
    each [] h k lt = absurd (omega arith)
    each (d ∷ ds) h zero lt = (and_parts (is_digit d) (are_digits ds) h).0
    each (d ∷ ds) h (suc k) lt =
        each ds (and_parts (is_digit d) (are_digits ds) h).1 k (omega arith)

third_test : {A : Type 0} (x y u : Bool) (a b c z : A) → x ≡ false → y ≡ false → u ≡ true
    → (if x then a else (if y then b else (if u then c else z))) ≡ c
third_test x y u a b c z p q r =
    ap (λ (t : Bool). if t then a else (if y then b else (if u then c else z))) p
    ∙ ap (λ (t : Bool). if t then b else (if u then c else z)) q
    ∙ ap (λ (t : Bool). if t then c else z) r

pub no_letter : (d : ℕ) → is_digit d ≡ true → (is_letter d || d == 95) ≡ false
no_letter d h = grind (arith, nat_tests)

digits_here : (d : ℕ) (ds bs : List ℕ) → are_digits (d ∷ ds) ≡ true
    → ends_digits (slice_index bs 0) ≡ true
    → first_lexeme Tail false (d ∷ (ds ++ bs))
    ≡ Lexeme (tokens.Number false (significant (d ∷ ds))) (length (d ∷ ds))
digits_here d ds bs h e =
    let one = (and_parts (is_digit d) (are_digits ds) h).0 in
    let o = digit_of d one in
    let l = o.low in
    let whole = (d ∷ ds) ++ bs in
    word_byte Tail d (ds ++ bs) o
    ∙ third_test (d == 10) (is_letter d || d == 95) (is_digit d) (Layout 1)
    (word_lexeme Tail whole (position_or_len ends_word whole))
    (number_lexeme whole (position_or_len ends_digits whole)) _
    (other d 10 (λ x. absurd (omega arith))) (no_letter d one) one
    ∙ ap (number_lexeme whole) (digits_len (d ∷ ds) bs h e)
    ∙ ap (λ (t : List ℕ). Lexeme (tokens.Number false (significant t)) (length (d ∷ ds)))
    (take_at (d ∷ ds) bs (length (d ∷ ds)) refl)

digits : (w : InnerPart) (ds bs : List ℕ) → 0 < length ds → are_digits ds ≡ true
    → ends_digits (slice_index bs 0) ≡ true
    → inner w (ds ++ bs) ≡ tokens.Number false (significant ds) ∷ inner w bs
digits w [] bs some h e = absurd (omega arith)
digits w (d ∷ ds) bs some h e =
    inner_turn w d ds bs (tokens.Number false (significant (d ∷ ds)))
    (number_stays w false (significant (d ∷ ds))) (digits_here d ds bs h e)

pub number : (w : InnerPart) (n : ℕ) (bs : List ℕ) → n < 2 ^ 64 → ends_digits (slice_index bs 0) ≡ true
    → inner w (decimal n ++ bs) ≡ tokens.Number false (significant (decimal n)) ∷ inner w bs
number w n bs h e = digits w (decimal n) bs (decimal_nonempty n h) (are_back n h) e

-- a sign and digits
minus_here : (ds bs : List ℕ) → 0 < length ds → are_digits ds ≡ true
    → ends_digits (slice_index bs 0) ≡ true
    → first_lexeme Tail false (45 ∷ (ds ++ bs))
    ≡ Lexeme (tokens.Number true (significant ds)) (length (45 ∷ ds))
unfolding first_lexeme
minus_here [] bs some h e = absurd (omega arith)
minus_here (d ∷ ds) bs some h e =
    let whole = (d ∷ ds) ++ bs in
    ap
    (λ (t : Bool).
    if t then minus_lexeme whole (position_or_len ends_digits whole) else sign_lexeme 45 d)
    (and_parts (is_digit d) (are_digits ds) h).0
    ∙ ap (minus_lexeme whole) (digits_len (d ∷ ds) bs h e)
    ∙ ap (λ (n : ℕ). Lexeme (tokens.Number true (significant (take (length (d ∷ ds)) whole))) n)
    (omega arith)
    ∙ ap (λ (t : List ℕ). Lexeme (tokens.Number true (significant t)) (length (45 ∷ d ∷ ds)))
    (take_at (d ∷ ds) bs (length (d ∷ ds)) refl)

pub negative : (w : InnerPart) (n : ℕ) (bs : List ℕ) → n < 2 ^ 64
    → ends_digits (slice_index bs 0) ≡ true
    → inner w (45 ∷ (decimal n ++ bs)) ≡ tokens.Number true (significant (decimal n)) ∷ inner w bs
negative w n bs h e =
    inner_turn w 45 (decimal n) bs (tokens.Number true (significant (decimal n)))
    (number_stays w true (significant (decimal n))) (minus_here (decimal n) bs
    (decimal_nonempty n h) (are_back n h) e)

-- what is no digit does not come first
pub digits_first : (c : ℕ) (ds bs : List ℕ) → is_digit c ≡ false → are_digits ds ≡ true
    → 0 < length ds → slice_index (ds ++ bs) 0 ≡ c → ⊥
digits_first c [] bs e h some = absurd (omega arith)
digits_first c (d ∷ ds) bs e h some =
    λ same.
    both_ways (is_digit c) e (ap is_digit (sym same) ∙ (and_parts (is_digit d) (are_digits ds) h).0)

-- ---- the numbers that they are

leading : (b : Bool) (d : ℕ) (ds : List ℕ) → (d == 48) ≡ b
    → decimal_from 0 (significant ds) ≡ decimal_from 0 ds
    → decimal_from 0 (if b then significant ds else d ∷ ds) ≡ decimal_from 0 (d ∷ ds)
leading true d ds e h = h ∙ ap (λ n. decimal_from n ds) (grind (arith, nat_tests))
leading false d ds e h = refl

significant_value : (ds : List ℕ) → words.decimal (significant ds) ≡ words.decimal ds
significant_value [] = refl
significant_value (d ∷ ds) = leading (d == 48) d ds refl (significant_value ds)

pub number_back : (n : ℕ) → n < 2 ^ 64 → words.decimal (significant (decimal n)) ≡ n
number_back n h = significant_value (decimal n) ∙ value_back n h

-- the digits of a number of 32 bits, and its sign
abbrev pub is_negative : ℤ → Bool
is_negative (pos n) = false
is_negative (negsuc n) = true

abbrev pub digits_of : ℤ → List ℕ
digits_of (pos n) = significant (decimal n)
digits_of (negsuc n) = significant (decimal (suc n))

pub signed_back : (z : ℤ) → IsNumber z → signed (is_negative z) (words.decimal (digits_of z)) ≡ z
signed_back (pos n) h = ap pos (number_back n (omega arith))
signed_back (negsuc n) h = ap (signed true) (number_back (suc n) (omega arith))

pub is_int_back : (z : ℤ) → IsNumber z → is_int (is_negative z) (digits_of z) ≡ true
is_int_back (pos n) h =
    ap (λ (k : ℕ). nat_lt k 2147483648) (number_back n (omega arith)) ∙ grind (arith, nat_tests)
is_int_back (negsuc n) h =
    ap (λ (k : ℕ). nat_le k 2147483648) (number_back (suc n) (omega arith))
    ∙ grind (arith, nat_tests)

pub signed_number : (w : InnerPart) (z : ℤ) (bs : List ℕ) → IsNumber z
    → ends_digits (slice_index bs 0) ≡ true
    → inner w (signed_decimal z ++ bs) ≡ tokens.Number (is_negative z) (digits_of z) ∷ inner w bs
signed_number w (pos n) bs h e = number w n bs (omega arith) e
signed_number w (negsuc n) bs h e = negative w (suc n) bs (omega arith) e

-- ---- registers

plain_first : (ds : List ℕ) → are_digits ds ≡ true → 48 < get_or ds 0 0 → is_plain ds ≡ true
plain_first [] h lt = absurd (omega arith)
plain_first (d ∷ ds) h lt =
    and_from (are_digits (d ∷ ds)) (is_empty ds || not (d == 48)) h (or_right (is_empty ds)
    (not (d == 48)) (ap not (other d 48 (λ e. absurd (omega arith)))))

plain_back : (n : ℕ) → n < 2 ^ 64 → is_plain (decimal n) ≡ true
plain_back zero h = ap is_plain (decimal_digit 0 (omega arith))
plain_back (suc n) h =
    plain_first (decimal (suc n)) (are_back (suc n) h) (first_decimal (suc n) (omega arith) h)

pub register_back : (r : ℕ) → r < 32 → register_of (register_text r) ≡ Some r
register_back r h =
    let ds = decimal r in
    ap (λ (b : Bool). if b && nat_lt (words.decimal ds) 32 then Some (words.decimal ds) else None)
    (plain_back r (omega arith))
    ∙ ap (λ (k : ℕ). if nat_lt k 32 then Some k else None) (value_back r (omega arith))
    ∙ ap (λ (b : Bool). if b then Some r else None) (lt-ltb r 32 h)

-- it is a word
pub register_word : (r : ℕ) → r < 32 → IsWord (register_text r)
register_word r h = record { first = refl; each = λ k lt. at_place k lt }
  where
    digit_is : (ds : List ℕ) → are_digits ds ≡ true → (k : ℕ) → k < length ds
        → is_word_byte (slice_index ds k) ≡ true
    digit_is [] e k lt = absurd (omega arith)
    digit_is (d ∷ ds) e zero lt =
        let x = (and_parts (is_digit d) (are_digits ds) e).0 in grind (arith, nat_tests)
    digit_is (d ∷ ds) e (suc k) lt =
        digit_is ds (and_parts (is_digit d) (are_digits ds) e).1 k (omega arith)

    at_place : (k : ℕ) → k < length (register_text r)
        → is_word_byte (slice_index (register_text r) k) ≡ true
    at_place zero lt = refl
    at_place (suc k) lt = digit_is (decimal r) (are_back r (omega arith)) k (omega arith)
