-- What the tokens of a text are made of.
use Rattle.std.proofs.Common.{◌≡◌, ℕ, zero, suc, ◌+◌, ◌-◌, Bool, true, false, List, [], ◌∷◌, length, take, drop, refl, ap, ◌∙◌, arith}
use Rattle.std.specs.Prelude.{if◌then◌else◌, ◌||◌, ◌&&◌, ◌==◌, not, slice_index, codes, Option, Some, None}
use Rattle.std.specs.List.{position_or_len}
use Rattle.std.specs.Str.{bytes_eq}
use Rattle.std.proofs.lemmas.Bool.{and_parts, and_from, or_parts, or_from, eqb-false}
use Rattle.std.proofs.lemmas.Bool.Decides.{nat_tests}
use Rattle.text_values.specs.Layout.{is_blank, is_line_end, quoted_from, comment_of}
use Rattle.litmus_tokens.specs.declared.rule.LitmusRule.TheVariants as rules
use Rattle.litmus_tokens.specs.declared.stage.Stage.{Stage}
use Rattle.litmus_tokens.specs.declared.stage.Stage.TheVariants.{Magic, Title, TitleEnd, Head, Init, Header, CellBegins, InCell, Tail}
use Rattle.litmus_tokens.specs.declared.token.Token.{Token}
use Rattle.litmus_tokens.specs.declared.token.Token.TheVariants as tokens
use Rattle.litmus_tokens.specs.declared.token.Mark as mark
use Rattle.litmus_tokens.specs.declared.lexer.NextLexeme.{NextLexeme}
use Rattle.litmus_tokens.specs.declared.lexer.NextLexeme.TheVariants.{Layout, Lexeme}
use Rattle.litmus_tokens.specs.Words.{are_digits}
use Rattle.text_values.specs.Letters.{is_digit, is_letter}
use Rattle.litmus_tokens.specs.Lexer.{is_word_byte, is_space, is_not_ascii, ends_word, ends_digits, is_equals, begins_comment, gap_from, comment_lexeme, ends_raw, raw_from, raw_lexeme, quoted_lexeme, line_lexeme, word_token, word_lexeme, significant, number_lexeme, minus_lexeme, mark_of, mark_lexeme, sign_lexeme, plain_lexeme, stage_lexeme, first_lexeme}
use Rattle.litmus_tokens.specs.Stage.{next_stage}
use Rattle.litmus_tokens.specs.Texts.{TokenAt, test_tokens_of, ends_line, fresh_after, after_lexeme, tokens_from}
use Rattle.litmus_laws.specs.Written.{begins_word, IsWord, holds_comment}
use Rattle.litmus_laws.proofs.Read.{is_past, past_after}
use Rattle.litmus_laws.proofs.Conditions.{all_of_word, is_word}
use Rattle.text_laws.proofs.Runs.{tested}

-- digits that no zero leads
pub record AreDigits (ds : List ℕ) : Type 0 where
  pub digits : are_digits ds ≡ true
  pub no_zero : slice_index ds 0 ≡ 48 → ⊥

abbrev pub Fine : Token → Type 0
Fine (tokens.Word w) = IsWord w
Fine (tokens.Label w) = IsWord w
Fine (tokens.Number negative ds) = AreDigits ds
Fine t = Unit {0}

-- the first two words of a text
abbrev pub IsRaw : Token → Type 0
IsRaw (tokens.Word w) = holds_comment w ≡ false
IsRaw t = Unit {0}

abbrev pub IsNoNinth : Token → Type 0
IsNoNinth (tokens.Word w) = bytes_eq w (codes "P8") ≡ false
IsNoNinth t = Unit {0}

abbrev pub FineIn : Stage → Token → Type 0
FineIn Magic t = IsRaw t
FineIn Title t = IsRaw t
FineIn TitleEnd t = Fine t
FineIn Head t = Fine t
FineIn (Init a w) t = Fine t
FineIn (Header zero) t = Fine t × IsNoNinth t
FineIn (Header (suc n)) t = Fine t
FineIn CellBegins t = Fine t
FineIn InCell t = Fine t
FineIn Tail t = Fine t

abbrev pub AreFine : Stage → List Token → Type 0
AreFine s [] = Unit {0}
AreFine s (t ∷ ts) = FineIn s t × AreFine (next_stage s t) ts

abbrev LexemeFine : Stage → NextLexeme → Type 0
LexemeFine s (Layout n) = Unit {0}
LexemeFine s (Lexeme t n) = FineIn s t

abbrev is_raw : Stage → Bool
is_raw Magic = true
is_raw Title = true
is_raw s = false

-- a token of any part
fine_in : (s : Stage) (t : Token) → Fine t → IsNoNinth t → IsRaw t → FineIn s t
fine_in Magic t f n r = r
fine_in Title t f n r = r
fine_in TitleEnd t f n r = f
fine_in Head t f n r = f
fine_in (Init a w) t f n r = f
fine_in (Header zero) t f n r = (f, n)
fine_in (Header (suc k)) t f n r = f
fine_in CellBegins t f n r = f
fine_in InCell t f n r = f
fine_in Tail t f n r = f

-- ---- words and digits

word_span : (bs : List ℕ) → all_of_word (take (position_or_len ends_word bs) bs) ≡ true
word_span [] = refl
word_span (b ∷ bs) = one (is_word_byte b) refl (word_span bs)
  where
    one : (c : Bool) → is_word_byte b ≡ c
        → all_of_word (take (position_or_len ends_word bs) bs) ≡ true
        → all_of_word (take (if not (not c) then 1 + position_or_len ends_word bs else 0) (b ∷ bs))
        ≡ true
    one true e h =
        let next : 1 + position_or_len ends_word bs ≡ suc (position_or_len ends_word bs) = omega arith in
        ap (λ (k : ℕ). all_of_word (take k (b ∷ bs))) next
        ∙ and_from (is_word_byte b) (all_of_word (take (position_or_len ends_word bs) bs)) e h
    one false e h = refl

digit_span : (bs : List ℕ) → are_digits (take (position_or_len ends_digits bs) bs) ≡ true
digit_span [] = refl
digit_span (b ∷ bs) = one (is_digit b) refl (digit_span bs)
  where
    one : (c : Bool) → is_digit b ≡ c → are_digits (take (position_or_len ends_digits bs) bs) ≡ true
        → are_digits (take (if not (not c) then 1 + position_or_len ends_digits bs else 0) (b ∷ bs))
        ≡ true
    one true e h =
        let next : 1 + position_or_len ends_digits bs ≡ suc (position_or_len ends_digits bs) = omega arith in
        ap (λ (k : ℕ). are_digits (take k (b ∷ bs))) next
        ∙ and_from (is_digit b) (are_digits (take (position_or_len ends_digits bs) bs)) e h
    one false e h = refl

begins_of : (b : ℕ) → begins_word b ≡ true → is_word_byte b ≡ true
begins_of b h = grind (arith, nat_tests)

word_taken : (b : ℕ) (bs : List ℕ) → begins_word b ≡ true
    → IsWord (take (position_or_len ends_word (b ∷ bs)) (b ∷ bs))
word_taken b bs h =
    let next : 1 + position_or_len ends_word bs ≡ suc (position_or_len ends_word bs) = omega arith in
    let more : position_or_len ends_word (b ∷ bs) ≡ suc (position_or_len ends_word bs) =
    ap (λ (c : Bool). if not (not c) then 1 + position_or_len ends_word bs else 0) (begins_of b h)
    ∙ next in
    is_word (take (position_or_len ends_word (b ∷ bs)) (b ∷ bs))
    (ap (λ (k : ℕ). begins_word (slice_index (take k (b ∷ bs)) 0)) more ∙ h)
    (word_span (b ∷ bs))

leading : (c : Bool) (d : ℕ) (ds : List ℕ) → (d == 48) ≡ c → are_digits (d ∷ ds) ≡ true
    → AreDigits (significant ds) → AreDigits (if c then significant ds else d ∷ ds)
leading true d ds e h s = s
leading false d ds e h s = record { digits = h; no_zero = eqb-false d 48 e }

significant_digits : (ds : List ℕ) → are_digits ds ≡ true → AreDigits (significant ds)
significant_digits [] h = record { digits = refl; no_zero = λ e. absurd (omega arith) }
significant_digits (d ∷ ds) h =
    leading (d == 48) d ds refl h (significant_digits ds
    (and_parts (is_digit d) (are_digits ds) h).1)

-- ---- what a text begins with

raw_taken : (m : ℕ) (bs : List ℕ)
    → (n : ℕ) × (raw_from m bs ≡ m + n) × (holds_comment (take n bs) ≡ false)
unfolding raw_from
raw_taken m [] = (0, omega arith, refl)
raw_taken m (b ∷ bs) = one (ends_raw b (slice_index bs 0)) refl (raw_taken (m + 1) bs)
  where
    no_begin : (k : ℕ) → (b == 40 && slice_index bs 0 == 42) ≡ false
        → (b == 40 && slice_index (take k bs) 0 == 42) ≡ false
    no_begin zero e = and_none (b == 40)
      where
        and_none : (x : Bool) → (x && false) ≡ false
        and_none true = refl
        and_none false = refl
    no_begin (suc k) e = same bs e
      where
        same : (cs : List ℕ) → (b == 40 && slice_index cs 0 == 42) ≡ false
            → (b == 40 && slice_index (take (suc k) cs) 0 == 42) ≡ false
        same [] h = h
        same (c ∷ cs) h = h

    one : (c : Bool) → ends_raw b (slice_index bs 0) ≡ c
        → ((n : ℕ) × (raw_from (m + 1) bs ≡ m + 1 + n) × (holds_comment (take n bs) ≡ false))
        → (n : ℕ) × ((if c then m else raw_from (m + 1) bs) ≡ m + n)
        × (holds_comment (take n (b ∷ bs)) ≡ false)
    one true e (n, is, none) = (0, omega arith, refl)
    one false e (n, is, none) =
        let parts = or_parts (is_space b || is_not_ascii b) (b == 40 && slice_index bs 0 == 42) e in
        let sum : m + 1 + n ≡ m + suc n = omega arith in (
          suc n,
          is ∙ sum,
          or_from (begins_comment (b ∷ take n bs)) (holds_comment (take n bs))
              (no_begin n parts.1) none,
        )

raw_word : (bs : List ℕ) → holds_comment (take (raw_from 0 bs) bs) ≡ false
raw_word bs =
    let r = raw_taken 0 bs in
    let same : 0 + r.0 ≡ r.0 = omega arith in
    ap (λ (k : ℕ). holds_comment (take k bs)) (r.1 ∙ same) ∙ r.2

comment_fine : (s : Stage) (n : ℕ) (o : Option ℕ) → LexemeFine s (comment_lexeme n o)
comment_fine s n (Some k) = tt
comment_fine s n None = fine_in s (tokens.Broken rules.OpenComment) tt tt tt

mark_fine : (s : Stage) (o : Option mark.Mark) → LexemeFine s (mark_lexeme o)
mark_fine s (Some m) = fine_in s (tokens.Mark m) tt tt tt
mark_fine s None = fine_in s tokens.Bad tt tt tt

sign_fine : (s : Stage) (b next : ℕ) → LexemeFine s (sign_lexeme b next)
sign_fine s b next =
    tested (LexemeFine s) (b == 47 && next == 92) _ _ (λ _. fine_in s (tokens.Mark _) tt tt tt)
    (λ _. tested (LexemeFine s) (b == 92 && next == 47) _ _ (λ _. fine_in s (tokens.Mark _) tt tt tt)
    (λ _. tested (LexemeFine s) (b == 61 && next == 62) _ _ (λ _. fine_in s (tokens.Mark _) tt tt tt)
    (λ _. mark_fine s (mark_of b))))

ninth_fine : (w : List ℕ) → IsWord w → FineIn (Header zero) (word_token (Header zero) w)
ninth_fine w h =
    tested (FineIn (Header zero)) (bytes_eq w (codes "P8")) (tokens.Broken rules.TooManyThreads)
    (tokens.Word w) (λ _. (tt, tt)) (λ e. (h, e))

word_fine : (s : Stage) (bs : List ℕ) (n : ℕ) → is_raw s ≡ false → IsWord (take n bs)
    → LexemeFine s (word_lexeme s bs n)
word_fine Magic bs n r h = absurd cc
word_fine Title bs n r h = absurd cc
word_fine TitleEnd bs n r h = h
word_fine Head bs n r h = h
word_fine (Init a w) bs n r h = h
word_fine (Header zero) bs n r h = ninth_fine (take n bs) h
word_fine (Header (suc k)) bs n r h = h
word_fine CellBegins bs n r h =
    let gap = gap_from 0 0 (drop n bs) in
    tested (LexemeFine CellBegins) (slice_index bs (n + gap) == 58)
    (Lexeme (tokens.Label (take n bs)) (n + gap + 1)) (Lexeme (tokens.Word (take n bs)) n)
    (λ _. h) (λ _. h)
word_fine InCell bs n r h = h
word_fine Tail bs n r h = h

number_fine : (s : Stage) (negative : Bool) (ds : List ℕ) → is_raw s ≡ false → AreDigits ds
    → FineIn s (tokens.Number negative ds)
number_fine s negative ds r h = fine_in s (tokens.Number negative ds) h tt tt

plain_fine : (s : Stage) (b : ℕ) (bs : List ℕ) → is_raw s ≡ false
    → LexemeFine s (plain_lexeme s (b ∷ bs))
plain_fine s b bs r =
    tested (LexemeFine s) (is_line_end b) (Layout 1) _ (λ _. tt)
    (λ _. tested (LexemeFine s) (begins_word b)
    (word_lexeme s (b ∷ bs) (position_or_len ends_word (b ∷ bs))) _
    (λ e. word_fine s (b ∷ bs) (position_or_len ends_word (b ∷ bs)) r (word_taken b bs e))
    (λ _. tested (LexemeFine s) (is_digit b)
    (number_lexeme (b ∷ bs) (position_or_len ends_digits (b ∷ bs))) _ (λ _. number_fine s false
    (significant (take (position_or_len ends_digits (b ∷ bs)) (b ∷ bs))) r
    (significant_digits (take (position_or_len ends_digits (b ∷ bs)) (b ∷ bs))
    (digit_span (b ∷ bs))))
    (λ _. tested (LexemeFine s) (b == 45 && is_digit (slice_index bs 0))
    (minus_lexeme bs (position_or_len ends_digits bs)) (sign_lexeme b (slice_index bs 0))
    (λ _. number_fine s true (significant (take (position_or_len ends_digits bs) bs)) r
    (significant_digits (take (position_or_len ends_digits bs) bs) (digit_span bs)))
    (λ _. sign_fine s b (slice_index bs 0)))))

line_fine : (line : List ℕ) → LexemeFine Head (line_lexeme line)
line_fine line =
    tested (LexemeFine Head) (position_or_len is_equals line == length line) (Lexeme tokens.Bad 1)
    (Lexeme tokens.Keyline (position_or_len is_not_ascii line)) (λ _. tt) (λ _. tt)

quoted_fine : (o : Option ℕ) → LexemeFine Head (quoted_lexeme o)
quoted_fine (Some n) = tt
quoted_fine None = tt

raw_fine : (s : Stage) (bs : List ℕ) → IsRaw (tokens.Word (take (raw_from 0 bs) bs))
    → ((t : Token) → IsRaw t → FineIn s t) → LexemeFine s (raw_lexeme bs (raw_from 0 bs))
raw_fine s bs h is =
    tested (LexemeFine s) (is_line_end (slice_index bs 0)) (Layout 1)
    (Lexeme (tokens.Word (take (raw_from 0 bs) bs)) (raw_from 0 bs)) (λ _. tt)
    (λ _. is (tokens.Word (take (raw_from 0 bs) bs)) h)

stage_fine : (s : Stage) (f : Bool) (b : ℕ) (bs : List ℕ) → LexemeFine s (stage_lexeme s f (b ∷ bs))
stage_fine Magic f b bs = raw_fine Magic (b ∷ bs) (raw_word (b ∷ bs)) (λ t h. h)
stage_fine Title f b bs = raw_fine Title (b ∷ bs) (raw_word (b ∷ bs)) (λ t h. h)
stage_fine TitleEnd f b bs =
    tested (LexemeFine TitleEnd) (is_line_end b) (Lexeme tokens.LineEnd 1) (Lexeme tokens.Bad 1)
    (λ _. tt) (λ _. tt)
stage_fine Head f b bs =
    tested (LexemeFine Head) (f && is_letter b) _ _ (λ _.
    line_fine (take (position_or_len is_line_end (b ∷ bs)) (b ∷ bs)))
    (λ _. tested (LexemeFine Head) (b == 34) (quoted_lexeme (quoted_from (b ∷ bs)))
    (plain_lexeme Head (b ∷ bs)) (λ _. quoted_fine (quoted_from (b ∷ bs)))
    (λ _. plain_fine Head b bs refl))
stage_fine (Init a w) f b bs = plain_fine (Init a w) b bs refl
stage_fine (Header n) f b bs = plain_fine (Header n) b bs refl
stage_fine CellBegins f b bs = plain_fine CellBegins b bs refl
stage_fine InCell f b bs = plain_fine InCell b bs refl
stage_fine Tail f b bs = plain_fine Tail b bs refl

first_fine : (s : Stage) (f : Bool) (b : ℕ) (bs : List ℕ) → LexemeFine s (first_lexeme s f (b ∷ bs))
unfolding first_lexeme
first_fine s f b bs =
    tested (LexemeFine s) (is_not_ascii b) (Lexeme (tokens.Broken rules.NotAscii) 1) _
    (λ _. fine_in s (tokens.Broken rules.NotAscii) tt tt tt)
    (λ _. tested (LexemeFine s) (is_blank b) (Layout 1) _ (λ _. tt)
    (λ _. tested (LexemeFine s) (begins_comment (b ∷ bs))
    (comment_lexeme (length (b ∷ bs)) (comment_of (b ∷ bs))) (stage_lexeme s f (b ∷ bs))
    (λ _. comment_fine s _ (comment_of (b ∷ bs))) (λ _. stage_fine s f b bs)))

after_fine : (s : Stage) (f : Bool) (p b : ℕ) (x : NextLexeme) (later : Stage → Bool → ℕ → List TokenAt)
    → LexemeFine s x → ((u : Stage) (g : Bool) (k : ℕ) → AreFine u (test_tokens_of (later u g k)))
    → AreFine s (test_tokens_of (after_lexeme s f p b x later))
after_fine s f p b (Layout n) later h all = all s (fresh_after f b) (n - 1)
after_fine s f p b (Lexeme t n) later h all = (h, all (next_stage s t) (ends_line t) (n - 1))

-- the tokens of a text
pub tokens_fine : (s : Stage) (f : Bool) (k p : ℕ) (bs : List ℕ)
    → AreFine s (test_tokens_of (tokens_from s f k p bs))
unfolding tokens_from
tokens_fine s f k p [] = (fine_in s tokens.End tt tt tt, tt)
tokens_fine s f (suc k) p (b ∷ bs) = tokens_fine s f k (p + 1) bs
tokens_fine s f zero p (b ∷ bs) =
    after_fine s f p b (first_lexeme s f (b ∷ bs)) (λ u g k. tokens_from u g k (p + 1) bs)
    (first_fine s f b bs) (λ u g k. tokens_fine u g k (p + 1) bs)

-- ---- from the init block on

abbrev pub AllFine : List Token → Type 0
AllFine [] = Unit {0}
AllFine (t ∷ ts) = Fine t × AllFine ts

fine_of : (s : Stage) (t : Token) → is_past s ≡ true → FineIn s t → Fine t
fine_of Magic t p h = absurd cc
fine_of Title t p h = absurd cc
fine_of TitleEnd t p h = absurd cc
fine_of Head t p h = absurd cc
fine_of (Init a w) t p h = h
fine_of (Header zero) t p h = h.0
fine_of (Header (suc n)) t p h = h
fine_of CellBegins t p h = h
fine_of InCell t p h = h
fine_of Tail t p h = h

pub all_fine : (s : Stage) (ts : List Token) → is_past s ≡ true → AreFine s ts → AllFine ts
all_fine s [] p h = tt
all_fine s (t ∷ ts) p h = (fine_of s t p h.0, all_fine (next_stage s t) ts (past_after s t p) h.1)
