-- A text of a test is cut in one way: what a piece is decides what the reader takes.
use Rattle.std.proofs.Common.{◌≡◌, ℕ, suc, ◌+◌, ◌<◌, Bool, true, false, List, [], ◌∷◌, ◌++◌, length, get_or, take, drop, refl, sym, ap, ◌∙◌, subst, arith, append_assoc}
use Rattle.std.specs.Prelude.{Option, Some, None, slice_index, ◌==◌, ◌&&◌, ◌||◌, not, if◌then◌else◌}
use Rattle.std.specs.List.{position_or_len}
use Rattle.std.proofs.lemmas.Bool.Decides.{nat_tests}
use Rattle.std.proofs.lemmas.List.{append-nil, length-append, get_or-drop, get_or_append_left, take_at, drop_at}
use Rattle.std.proofs.lemmas.List.Sums.{fails_before_first, position_or_len_is}
use Rattle.text_values.specs.Letters.{is_letter, is_digit}
use Rattle.text_values.specs.Layout.{is_blank, is_line_end, is_quote, comment_of}
use Rattle.text_laws.specs.Comments.{LacksQuote, BeginsWithComment}
use Rattle.text_laws.proofs.Nesting as nesting
use Rattle.text_laws.proofs.Runs.{opposite, equals, or_first, or_second, seam, when_true, when_false, quote_size, open_size}
use Rattle.litmus_tokens.specs.declared.rule.LitmusRule.TheVariants as rules
use Rattle.litmus_tokens.specs.declared.stage.Stage.{Stage}
use Rattle.litmus_tokens.specs.declared.stage.Stage.TheVariants.{Magic, Title, TitleEnd, Head, Init, Header, CellBegins, InCell, Tail}
use Rattle.litmus_tokens.specs.declared.token.Mark as mark
use Rattle.litmus_tokens.specs.declared.token.Mark.TheVariants.{OpenBrace, CloseBrace, OpenBracket, CloseBracket, Open, Close, Comma, Semicolon, Colon, Bar, Equals, Tilde, And, Or, Implies}
use Rattle.litmus_tokens.specs.declared.token.Token.{Token}
use Rattle.litmus_tokens.specs.declared.token.Token.TheVariants as tokens
use Rattle.litmus_tokens.specs.declared.lexer.NextLexeme.{NextLexeme}
use Rattle.litmus_tokens.specs.declared.lexer.NextLexeme.TheVariants as lexemes
use Rattle.litmus_tokens.specs.Lexer.{is_not_ascii, is_word_byte, is_equals, begins_comment, gap_from, comment_lexeme, ends_raw, raw_from, raw_lexeme, quoted_lexeme, line_lexeme, word_token, label_lexeme, word_lexeme, significant, number_lexeme, minus_lexeme, mark_of, mark_lexeme, sign_lexeme, plain_lexeme, stage_lexeme, first_lexeme}
use Rattle.litmus_tokens.specs.Stage.{next_stage}
use Rattle.litmus_tokens.specs.Texts.{TokenAt, ends_line, fresh_after, after_lexeme, tokens_from, test_lexing}
use Rattle.litmus_laws.specs.Tokens.{IsTestGap, Blank, LineEnd, Comment, begins_gap, IsByteRun, IsWordLexeme, IsRaw, gaps_text, AreGaps, IsLabelLexeme, IsFirstLine, LacksEquals, IsKeyline, is_first, is_plain, double_of, IsTestLexeme, FirstWord, NameEnd, Keyline, Quoted, Word, Label, Number, Negative, Double, Single, NotAscii, OpenComment, NoNameEnd, NoKeyline, NoQuoted, NoToken, TestPiece, Gap, Lexeme, test_text_of, ArePieces, tokens_at, IsTestCut}
use Rattle.litmus_laws.proofs.Gaps.{gaps_of, all_gaps}
use Rattle.litmus_laws.proofs.Pieces.{IsOpen, cons_at, skipped, lexeme_bytes}
use Rattle.std.proofs.lemmas.Bool.{and_left, false_from_ne_true, not-true}
use Rattle.litmus_laws.proofs.Numbers.{no_letter}

-- ---- the reader's first lexeme, by its tests

byte_open : (b : ℕ) (bs : List ℕ) → is_not_ascii b ≡ false → is_blank b ≡ false → (b == 40) ≡ false
    → IsOpen b bs
byte_open b bs ascii blank bracket =
    record {
      ascii = ascii;
      blank = blank;
      comment = and_left (b == 40) (slice_index bs 0 == 42) bracket;
    }

open_lexeme : (s : Stage) (fresh : Bool) (b : ℕ) (bs : List ℕ) → IsOpen b bs
    → first_lexeme s fresh (b ∷ bs) ≡ stage_lexeme s fresh (b ∷ bs)
unfolding first_lexeme
open_lexeme s fresh b bs o =
    when_false (is_not_ascii b) _ _ o.ascii ∙ when_false (is_blank b) _ _ o.blank
    ∙ when_false (begins_comment (b ∷ bs)) _ _ o.comment

first_ascii : (s : Stage) (fresh : Bool) (b : ℕ) (bs : List ℕ) → is_not_ascii b ≡ true
    → first_lexeme s fresh (b ∷ bs) ≡ lexemes.Lexeme (tokens.Broken rules.NotAscii) 1
unfolding first_lexeme
first_ascii s fresh b bs e = when_true (is_not_ascii b) _ _ e

first_blank : (s : Stage) (fresh : Bool) (b : ℕ) (bs : List ℕ) → is_not_ascii b ≡ false
    → is_blank b ≡ true → first_lexeme s fresh (b ∷ bs) ≡ lexemes.Layout 1
unfolding first_lexeme
first_blank s fresh b bs ascii blank =
    when_false (is_not_ascii b) _ _ ascii ∙ when_true (is_blank b) _ _ blank

first_comment : (s : Stage) (fresh : Bool) (xs : List ℕ)
    → first_lexeme s fresh (40 ∷ 42 ∷ xs)
    ≡ comment_lexeme (length (40 ∷ 42 ∷ xs)) (comment_of (40 ∷ 42 ∷ xs))
unfolding first_lexeme
first_comment s fresh xs = refl

plain_stage : (s : Stage) (fresh : Bool) (b : ℕ) (bs : List ℕ) → is_plain s fresh b ≡ true
    → stage_lexeme s fresh (b ∷ bs) ≡ plain_lexeme s (b ∷ bs)
plain_stage Magic fresh b bs e = absurd cc
plain_stage Title fresh b bs e = absurd cc
plain_stage TitleEnd fresh b bs e = absurd cc
plain_stage Head fresh b bs e =
    let none = not-true ((fresh && is_letter b) || b == 34) e in
    when_false (fresh && is_letter b) _ _ (or_first (fresh && is_letter b) (b == 34) none)
    ∙ when_false (b == 34) _ _ (or_second (fresh && is_letter b) (b == 34) none)
plain_stage (Init a w) fresh b bs e = refl
plain_stage (Header n) fresh b bs e = refl
plain_stage CellBegins fresh b bs e = refl
plain_stage InCell fresh b bs e = refl
plain_stage Tail fresh b bs e = refl

open_plain : (s : Stage) (fresh : Bool) (b : ℕ) (bs : List ℕ) → IsOpen b bs
    → is_plain s fresh b ≡ true → first_lexeme s fresh (b ∷ bs) ≡ plain_lexeme s (b ∷ bs)
open_plain s fresh b bs o plain = open_lexeme s fresh b bs o ∙ plain_stage s fresh b bs plain

-- ---- what a first byte is not

blank_byte : (b : ℕ) → is_blank b ≡ true → is_not_ascii b ≡ false
blank_byte b h = grind (arith, nat_tests)

end_ascii : (b : ℕ) → is_line_end b ≡ true → is_not_ascii b ≡ false
end_ascii b h = grind (arith, nat_tests)

end_blank : (b : ℕ) → is_line_end b ≡ true → is_blank b ≡ false
end_blank b h = grind (arith, nat_tests)

end_open : (b : ℕ) → is_line_end b ≡ true → (b == 40) ≡ false
end_open b h = grind (arith, nat_tests)

end_letter : (b : ℕ) → is_line_end b ≡ true → is_letter b ≡ false
end_letter b h = grind (arith, nat_tests)

end_quote : (b : ℕ) → is_line_end b ≡ true → (b == 34) ≡ false
end_quote b h = grind (arith, nat_tests)

line_open : (b : ℕ) (bs : List ℕ) → is_line_end b ≡ true → IsOpen b bs
line_open b bs h = byte_open b bs (end_ascii b h) (end_blank b h) (end_open b h)

word_ascii : (b : ℕ) → (is_letter b || b == 95) ≡ true → is_not_ascii b ≡ false
word_ascii b h = grind (arith, nat_tests)

word_blank : (b : ℕ) → (is_letter b || b == 95) ≡ true → is_blank b ≡ false
word_blank b h = grind (arith, nat_tests)

word_open : (b : ℕ) → (is_letter b || b == 95) ≡ true → (b == 40) ≡ false
word_open b h = grind (arith, nat_tests)

word_end : (b : ℕ) → (is_letter b || b == 95) ≡ true → is_line_end b ≡ false
word_end b h = grind (arith, nat_tests)

letter_word : (b : ℕ) → is_letter b ≡ true → (is_letter b || b == 95) ≡ true
letter_word b h = ap (λ (x : Bool). x || b == 95) h

starts_open : (b : ℕ) (bs : List ℕ) → (is_letter b || b == 95) ≡ true → IsOpen b bs
starts_open b bs h = byte_open b bs (word_ascii b h) (word_blank b h) (word_open b h)

digit_ascii : (b : ℕ) → is_digit b ≡ true → is_not_ascii b ≡ false
digit_ascii b h = grind (arith, nat_tests)

digit_blank : (b : ℕ) → is_digit b ≡ true → is_blank b ≡ false
digit_blank b h = grind (arith, nat_tests)

digit_open : (b : ℕ) → is_digit b ≡ true → (b == 40) ≡ false
digit_open b h = grind (arith, nat_tests)

digit_end : (b : ℕ) → is_digit b ≡ true → is_line_end b ≡ false
digit_end b h = grind (arith, nat_tests)

-- ---- gaps

line_layout : (s : Stage) (fresh : Bool) (b : ℕ) (bs : List ℕ) → (s ≡ TitleEnd → ⊥)
    → is_line_end b ≡ true → stage_lexeme s fresh (b ∷ bs) ≡ lexemes.Layout 1
line_layout Magic fresh b bs apart e = when_true (is_line_end b) _ _ e
line_layout Title fresh b bs apart e = when_true (is_line_end b) _ _ e
line_layout TitleEnd fresh b bs apart e = absurd (apart refl)
line_layout Head fresh b bs apart e =
    when_false (fresh && is_letter b) _ _ (no_letter fresh)
    ∙ when_false (b == 34) _ _ (end_quote b e) ∙ when_true (is_line_end b) _ _ e
  where
    no_letter : (x : Bool) → (x && is_letter b) ≡ false
    no_letter true = end_letter b e
    no_letter false = refl
line_layout (Init a w) fresh b bs apart e = when_true (is_line_end b) _ _ e
line_layout (Header n) fresh b bs apart e = when_true (is_line_end b) _ _ e
line_layout CellBegins fresh b bs apart e = when_true (is_line_end b) _ _ e
line_layout InCell fresh b bs apart e = when_true (is_line_end b) _ _ e
line_layout Tail fresh b bs apart e = when_true (is_line_end b) _ _ e

first_gap : (stage : Stage) (fresh : Bool) (s rest : List ℕ) → IsTestGap stage s rest
    → first_lexeme stage fresh (s ++ rest) ≡ lexemes.Layout (length s)
first_gap stage fresh s rest (Blank b blank is) =
    ap (λ (xs : List ℕ). first_lexeme stage fresh (xs ++ rest)) is
    ∙ first_blank stage fresh b rest (blank_byte b blank) blank
    ∙ ap (λ (xs : List ℕ). lexemes.Layout (length xs)) (sym is)
first_gap stage fresh s rest (LineEnd apart b e is) =
    ap (λ (xs : List ℕ). first_lexeme stage fresh (xs ++ rest)) is
    ∙ open_lexeme stage fresh b rest (line_open b rest e)
    ∙ line_layout stage fresh b rest apart e
    ∙ ap (λ (xs : List ℕ). lexemes.Layout (length xs)) (sym is)
first_gap stage fresh s rest (Comment c) =
    ap (first_lexeme stage fresh) c.whole ∙ first_comment stage fresh _
    ∙ ap (λ (xs : List ℕ). comment_lexeme (length xs) (comment_of xs)) (sym c.whole)
    ∙ ap (comment_lexeme (length (s ++ rest))) (nesting.only (s ++ rest) (length s) c)

gap_bytes : (stage : Stage) (s rest : List ℕ) → IsTestGap stage s rest → 0 < length s
gap_bytes stage s rest (Blank b blank is) =
    let l = ap length is in
    omega arith
gap_bytes stage s rest (LineEnd apart b e is) =
    let l = ap length is in
    omega arith
gap_bytes stage s rest (Comment c) = nesting.some_bytes (s ++ rest) (length s) c

-- ---- words and labels

run_size : (p : ℕ → Bool) (s rest : List ℕ) → IsByteRun p s rest
    → position_or_len (λ b. not (p b)) (s ++ rest) ≡ length s
run_size p s rest r =
    let l = length-append s rest in
    position_or_len_is (λ b. not (p b)) (s ++ rest) (length s) 0 (omega arith) (λ k lt. ap
    (λ (b : ℕ). not (p b)) (get_or_append_left s rest 0 k lt) ∙ ap not (r.each k lt))
    (λ lt. ap (λ (b : ℕ). not (p b)) (seam s rest) ∙ ap not (r.ends (omega arith)))

first_word : (stage : Stage) (fresh : Bool) (s rest : List ℕ)
    → is_plain stage fresh (slice_index s 0) ≡ true → IsWordLexeme s rest
    → first_lexeme stage fresh (s ++ rest) ≡ word_lexeme stage (s ++ rest) (length s)
first_word stage fresh [] rest plain w = let bad : false ≡ true = w.first in absurd cc
first_word stage fresh (b ∷ bs) rest plain w =
    open_plain stage fresh b (bs ++ rest) (starts_open b (bs ++ rest) w.first) plain
    ∙ when_false (is_line_end b) _ _ (word_end b w.first)
    ∙ when_true (is_letter b || b == 95) _ _ w.first
    ∙ ap (word_lexeme stage (b ∷ (bs ++ rest))) (run_size is_word_byte (b ∷ bs) rest w.run)

-- a label that the text begins with
record BeginsWithLabel (word text : List ℕ) : Type 0 where
  label : List ℕ
  others : List ℕ
  whole : label ++ others ≡ text
  is : IsLabelLexeme word label others

-- the byte that stands some bytes behind a word
behind_word : (s rest : List ℕ) (k : ℕ)
    → slice_index (s ++ rest) (length s + k) ≡ slice_index rest k
behind_word s rest k =
    sym (get_or-drop (length s) (s ++ rest) k 0)
    ∙ ap (λ (xs : List ℕ). get_or xs k 0) (drop_at s rest (length s) refl)

label_there : (s rest : List ℕ) → IsWordLexeme s rest
    → (slice_index (s ++ rest) (length s + gap_from 0 0 rest) == 58) ≡ true
    → BeginsWithLabel s (s ++ rest)
label_there s rest w e =
    let f = gaps_of rest in
    let g = gaps_text f.gaps in
    let count : gap_from 0 0 rest ≡ length g = f.count ∙ (let z : 0 + length g ≡ length g = omega arith in z) in
    let there : get_or f.rest 0 0 ≡ 58 =
    sym (seam g f.rest) ∙ ap (λ (xs : List ℕ). get_or xs (length g) 0) (sym f.whole)
    ∙ ap (λ (k : ℕ). get_or rest k 0) (sym count) ∙ sym (behind_word s rest (gap_from 0 0 rest))
    ∙ nesting.equal _ 58 e in
    let colon = cons_at f.rest there in
    let others = drop 1 f.rest in
    let behind : rest ≡ g ++ 58 ∷ others = f.whole ∙ ap (λ (xs : List ℕ). g ++ xs) colon in
    record {
      label = s ++ (g ++ 58 ∷ []);
      others = others;
      whole =
          append_assoc s (g ++ 58 ∷ []) others
          ∙ ap (λ (xs : List ℕ). s ++ xs) (append_assoc g (58 ∷ []) others ∙ sym behind);
      is = record {
        gaps = f.gaps;
        is_word = subst (IsWordLexeme s) behind w;
        between = subst (AreGaps f.gaps) colon f.are;
        whole = refl;
      };
    }

cell_word : (s rest : List ℕ) → IsWordLexeme s rest → (BeginsWithLabel s (s ++ rest) → ⊥)
    → word_lexeme CellBegins (s ++ rest) (length s) ≡ lexemes.Lexeme (tokens.Word s) (length s)
cell_word s rest w none =
    ap (λ (xs : List ℕ). label_lexeme (s ++ rest) (length s) (gap_from 0 0 xs))
    (drop_at s rest (length s) refl)
    ∙ when_false (slice_index (s ++ rest) (length s + gap_from 0 0 rest) == 58) _ _
    (false_from_ne_true _ (λ e. none (label_there s rest w e)))
    ∙ ap (λ (xs : List ℕ). lexemes.Lexeme (tokens.Word xs) (length s))
    (take_at s rest (length s) refl)

other_word : (stage : Stage) (s rest : List ℕ) → IsWordLexeme s rest
    → (stage ≡ CellBegins → BeginsWithLabel s (s ++ rest) → ⊥)
    → word_lexeme stage (s ++ rest) (length s) ≡ lexemes.Lexeme (word_token stage s) (length s)
other_word Magic s rest w none =
    ap (λ (xs : List ℕ). lexemes.Lexeme (word_token Magic xs) (length s))
    (take_at s rest (length s) refl)
other_word Title s rest w none =
    ap (λ (xs : List ℕ). lexemes.Lexeme (word_token Title xs) (length s))
    (take_at s rest (length s) refl)
other_word TitleEnd s rest w none =
    ap (λ (xs : List ℕ). lexemes.Lexeme (word_token TitleEnd xs) (length s))
    (take_at s rest (length s) refl)
other_word Head s rest w none =
    ap (λ (xs : List ℕ). lexemes.Lexeme (word_token Head xs) (length s))
    (take_at s rest (length s) refl)
other_word (Init a x) s rest w none =
    ap (λ (xs : List ℕ). lexemes.Lexeme (word_token (Init a x) xs) (length s))
    (take_at s rest (length s) refl)
other_word (Header n) s rest w none =
    ap (λ (xs : List ℕ). lexemes.Lexeme (word_token (Header n) xs) (length s))
    (take_at s rest (length s) refl)
other_word CellBegins s rest w none = cell_word s rest w (none refl)
other_word InCell s rest w none =
    ap (λ (xs : List ℕ). lexemes.Lexeme (word_token InCell xs) (length s))
    (take_at s rest (length s) refl)
other_word Tail s rest w none =
    ap (λ (xs : List ℕ). lexemes.Lexeme (word_token Tail xs) (length s))
    (take_at s rest (length s) refl)

first_label : (fresh : Bool) (word s rest : List ℕ) → IsLabelLexeme word s rest
    → first_lexeme CellBegins fresh (s ++ rest) ≡ lexemes.Lexeme (tokens.Label word) (length s)
first_label fresh word s rest x =
    let g = gaps_text x.gaps in
    let behind = g ++ 58 ∷ rest in
    let whole : s ++ rest ≡ word ++ behind =
    ap (λ (xs : List ℕ). xs ++ rest) x.whole ∙ append_assoc word (g ++ 58 ∷ []) rest
    ∙ ap (λ (xs : List ℕ). word ++ xs) (append_assoc g (58 ∷ []) rest) in
    let gap : gap_from 0 0 (drop (length word) (word ++ behind)) ≡ length g =
    ap (gap_from 0 0) (drop_at word behind (length word) refl) ∙ all_gaps 0 x.gaps rest x.between
    ∙ (let z : 0 + length g ≡ length g = omega arith in z) in
    let colon : slice_index (word ++ behind) (length word + length g) ≡ 58 = behind_word word behind (length g) ∙ seam g (58 ∷ rest) in
    let l = ap length x.whole in
    let m = length-append word (g ++ 58 ∷ []) in
    let n = length-append g (58 ∷ []) in
    let size : length word + length g + 1 ≡ length s = omega arith in
    ap (first_lexeme CellBegins fresh) whole ∙ first_word CellBegins fresh word behind refl x.is_word
    ∙ ap (label_lexeme (word ++ behind) (length word)) gap
    ∙ when_true (slice_index (word ++ behind) (length word + length g) == 58) _ _
    (equals _ 58 colon)
    ∙ ap (λ (xs : List ℕ). lexemes.Lexeme (tokens.Label xs) (length word + length g + 1))
    (take_at word behind (length word) refl)
    ∙ ap (λ (k : ℕ). lexemes.Lexeme (tokens.Label word) k) size

-- ---- numbers

first_number : (stage : Stage) (fresh : Bool) (s rest : List ℕ)
    → is_plain stage fresh (slice_index s 0) ≡ true → 0 < length s → IsByteRun is_digit s rest
    → first_lexeme stage fresh (s ++ rest) ≡ lexemes.Lexeme (tokens.Number false (significant s)) (length s)
first_number stage fresh [] rest plain some r = absurd (omega arith)
first_number stage fresh (b ∷ bs) rest plain some r =
    let digit : is_digit b ≡ true = r.each 0 (omega arith) in
    open_plain stage fresh b (bs ++ rest)
    (byte_open b (bs ++ rest) (digit_ascii b digit) (digit_blank b digit) (digit_open b digit))
    plain
    ∙ when_false (is_line_end b) _ _ (digit_end b digit)
    ∙ when_false (is_letter b || b == 95) _ _ (no_letter b digit)
    ∙ when_true (is_digit b) _ _ digit
    ∙ ap (number_lexeme (b ∷ (bs ++ rest))) (run_size is_digit (b ∷ bs) rest r)
    ∙ ap (λ (xs : List ℕ). lexemes.Lexeme (tokens.Number false (significant xs)) (length (b ∷ bs)))
    (take_at (b ∷ bs) rest (length (b ∷ bs)) refl)

first_minus : (stage : Stage) (fresh : Bool) (ds rest : List ℕ) → is_plain stage fresh 45 ≡ true
    → 0 < length ds → IsByteRun is_digit ds rest
    → first_lexeme stage fresh (45 ∷ (ds ++ rest))
    ≡ lexemes.Lexeme (tokens.Number true (significant ds)) (length ds + 1)
first_minus stage fresh [] rest plain some r = absurd (omega arith)
first_minus stage fresh (d ∷ ds) rest plain some r =
    let digit : is_digit d ≡ true = r.each 0 (omega arith) in
    open_plain stage fresh 45 ((d ∷ ds) ++ rest) (byte_open 45 ((d ∷ ds) ++ rest) refl refl refl)
    plain ∙ when_true (is_digit d) _ _ digit
    ∙ ap (minus_lexeme (d ∷ (ds ++ rest))) (run_size is_digit (d ∷ ds) rest r)
    ∙ ap
    (λ (xs : List ℕ). lexemes.Lexeme (tokens.Number true (significant xs)) (length (d ∷ ds) + 1))
    (take_at (d ∷ ds) rest (length (d ∷ ds)) refl)

-- ---- marks

-- neither a gap, nor what begins a word or a number
record IsSign (b : ℕ) (bs : List ℕ) : Type 0 where
  start : IsOpen b bs
  line : is_line_end b ≡ false
  word : (is_letter b || b == 95) ≡ false
  digit : is_digit b ≡ false
  minus : (b == 45 && is_digit (slice_index bs 0)) ≡ false

first_sign : (stage : Stage) (fresh : Bool) (b : ℕ) (bs : List ℕ) → is_plain stage fresh b ≡ true
    → IsSign b bs → first_lexeme stage fresh (b ∷ bs) ≡ sign_lexeme b (slice_index bs 0)
first_sign stage fresh b bs plain x =
    open_plain stage fresh b bs x.start plain ∙ when_false (is_line_end b) _ _ x.line
    ∙ when_false (is_letter b || b == 95) _ _ x.word ∙ when_false (is_digit b) _ _ x.digit
    ∙ when_false (b == 45 && is_digit (slice_index bs 0)) _ _ x.minus

-- the test of three pairs of bytes
abbrev pair_of : Bool → Bool → Bool → Option mark.Mark
pair_of x y z = if x then Some And else (if y then Some Or else (if z then Some Implies else None))

abbrev pair_lexeme : Bool → Bool → Bool → NextLexeme → NextLexeme
pair_lexeme x y z f =
    if x then lexemes.Lexeme (tokens.Mark And) 2
    else (if y then lexemes.Lexeme (tokens.Mark Or) 2
    else (if z then lexemes.Lexeme (tokens.Mark Implies) 2 else f))

pair_some : (x y z : Bool) (m : mark.Mark) (f : NextLexeme) → pair_of x y z ≡ Some m
    → pair_lexeme x y z f ≡ lexemes.Lexeme (tokens.Mark m) 2
pair_some true y z m f e =
    let same : And ≡ m = cc in
    ap (λ (k : mark.Mark). lexemes.Lexeme (tokens.Mark k) 2) same
pair_some false true z m f e =
    let same : Or ≡ m = cc in
    ap (λ (k : mark.Mark). lexemes.Lexeme (tokens.Mark k) 2) same
pair_some false false true m f e =
    let same : Implies ≡ m = cc in
    ap (λ (k : mark.Mark). lexemes.Lexeme (tokens.Mark k) 2) same
pair_some false false false m f e = absurd cc

pair_none : (x y z : Bool) (f : NextLexeme) → pair_of x y z ≡ None → pair_lexeme x y z f ≡ f
pair_none true y z f e = absurd cc
pair_none false true z f e = absurd cc
pair_none false false true f e = absurd cc
pair_none false false false f e = refl

pair_first : (P : ℕ → Type 0) (a b : ℕ) (m : mark.Mark) → P 47 → P 92 → P 61
    → double_of a b ≡ Some m → P a
pair_first P a b m one two three =
    by_tests (a == 47 && b == 92) (a == 92 && b == 47) (a == 61 && b == 62) refl refl refl
  where
    first : (c d : ℕ) → P c → (a == c && b == d) ≡ true → P a
    first c d p e = subst P (sym (nesting.equal a c (nesting.both (a == c) (b == d) e).0)) p

    by_tests : (x y z : Bool) → (a == 47 && b == 92) ≡ x → (a == 92 && b == 47) ≡ y
        → (a == 61 && b == 62) ≡ z → pair_of x y z ≡ Some m → P a
    by_tests true y z e f g h = first 47 92 one e
    by_tests false true z e f g h = first 92 47 two f
    by_tests false false true e f g h = first 61 62 three g
    by_tests false false false e f g h = absurd cc

first_double : (stage : Stage) (fresh : Bool) (a b : ℕ) (m : mark.Mark) (rest : List ℕ)
    → is_plain stage fresh a ≡ true → double_of a b ≡ Some m
    → first_lexeme stage fresh (a ∷ b ∷ rest) ≡ lexemes.Lexeme (tokens.Mark m) 2
first_double stage fresh a b m rest plain e =
    let sign = pair_first (λ (k : ℕ). IsSign k (b ∷ rest)) a b m (known 47 refl refl refl refl refl refl refl) (known 92 refl refl refl refl refl refl refl) (known 61 refl refl refl refl refl refl refl) e in
    first_sign stage fresh a (b ∷ rest) plain sign
    ∙ pair_some (a == 47 && b == 92) (a == 92 && b == 47) (a == 61 && b == 62) m
    (mark_lexeme (mark_of a)) e
  where
    known : (k : ℕ) → is_not_ascii k ≡ false → is_blank k ≡ false → (k == 40) ≡ false
        → is_line_end k ≡ false → (is_letter k || k == 95) ≡ false → is_digit k ≡ false
        → (k == 45) ≡ false → IsSign k (b ∷ rest)
    known k ascii blank bracket line word digit minus =
        record {
          start = byte_open k (b ∷ rest) ascii blank bracket;
          line = line;
          word = word;
          digit = digit;
          minus = and_left (k == 45) (is_digit b) minus;
        }

-- what the tests before say of a mark of one sign
abbrev IsMark : ℕ → Type 0
IsMark b =
    (is_not_ascii b ≡ false) × (is_blank b ≡ false) × (is_line_end b ≡ false)
    × ((is_letter b || b == 95) ≡ false) × (is_digit b ≡ false) × ((b == 45) ≡ false)

link : (P : ℕ → Type 0) (b c : ℕ) (k m : mark.Mark) (r : Option mark.Mark) → P c
    → (r ≡ Some m → P b) → (if b == c then Some k else r) ≡ Some m → P b
link P b c k m r p more e = by_test (b == c) refl e
  where
    by_test : (x : Bool) → (b == c) ≡ x → (if x then Some k else r) ≡ Some m → P b
    by_test true t h = subst P (sym (nesting.equal b c t)) p
    by_test false t h = more h

marked : (b : ℕ) (m : mark.Mark) → mark_of b ≡ Some m → IsMark b
marked b m =
    link IsMark b 123 OpenBrace m _ (refl, refl, refl, refl, refl, refl) (link IsMark b 125
    CloseBrace m _ (refl, refl, refl, refl, refl, refl) (
    link IsMark b 91 OpenBracket m _ (refl, refl, refl, refl, refl, refl) (link IsMark b 93
    CloseBracket m _ (refl, refl, refl, refl, refl, refl) (
    link IsMark b 40 Open m _ (refl, refl, refl, refl, refl, refl) (link IsMark b 41 Close m _
    (refl, refl, refl, refl, refl, refl) (
    link IsMark b 44 Comma m _ (refl, refl, refl, refl, refl, refl) (link IsMark b 59 Semicolon m _
    (refl, refl, refl, refl, refl, refl) (
    link IsMark b 58 Colon m _ (refl, refl, refl, refl, refl, refl) (link IsMark b 124 Bar m _
    (refl, refl, refl, refl, refl, refl) (
    link IsMark b 61 Equals m _ (refl, refl, refl, refl, refl, refl) (link IsMark b 126 Tilde m _
    (refl, refl, refl, refl, refl, refl) (λ h. absurd cc))))))))))))

one_sign : (stage : Stage) (fresh : Bool) (b : ℕ) (rest : List ℕ) → is_plain stage fresh b ≡ true
    → IsSign b rest → double_of b (slice_index rest 0) ≡ None
    → first_lexeme stage fresh (b ∷ rest) ≡ mark_lexeme (mark_of b)
one_sign stage fresh b rest plain x double =
    first_sign stage fresh b rest plain x
    ∙ pair_none (b == 47 && slice_index rest 0 == 92) (b == 92 && slice_index rest 0 == 47)
    (b == 61 && slice_index rest 0 == 62) (mark_lexeme (mark_of b)) double

first_single : (stage : Stage) (fresh : Bool) (b : ℕ) (m : mark.Mark) (rest : List ℕ)
    → is_plain stage fresh b ≡ true → begins_gap (b ∷ rest) ≡ false
    → double_of b (slice_index rest 0) ≡ None → mark_of b ≡ Some m
    → first_lexeme stage fresh (b ∷ rest) ≡ lexemes.Lexeme (tokens.Mark m) 1
first_single stage fresh b m rest plain gap double is =
    let k = marked b m is in
    one_sign stage fresh b rest plain (record {
      start =
          record {
            ascii = k.0;
            blank = k.1;
            comment = or_second (is_blank b) (begins_comment (b ∷ rest)) gap;
          };
      line = k.2;
      word = k.3;
      digit = k.4;
      minus = and_left (b == 45) (is_digit (slice_index rest 0)) k.5;
    }) double ∙ ap mark_lexeme is

gap_open : (b : ℕ) (bs : List ℕ) → is_not_ascii b ≡ false → begins_gap (b ∷ bs) ≡ false
    → IsOpen b bs
gap_open b bs ascii gap =
    record {
      ascii = ascii;
      blank = or_first (is_blank b) (begins_comment (b ∷ bs)) gap;
      comment = or_second (is_blank b) (begins_comment (b ∷ bs)) gap;
    }

first_none : (stage : Stage) (fresh : Bool) (b : ℕ) (rest : List ℕ) → is_plain stage fresh b ≡ true
    → is_not_ascii b ≡ false → begins_gap (b ∷ rest) ≡ false → is_line_end b ≡ false
    → is_word_byte b ≡ false
    → (b == 45 && is_digit (slice_index rest 0)) ≡ false → double_of b (slice_index rest 0) ≡ None
    → mark_of b ≡ None → first_lexeme stage fresh (b ∷ rest) ≡ lexemes.Lexeme tokens.Bad 1
first_none stage fresh b rest plain ascii gap line word minus double none =
    let either = or_first (is_letter b || is_digit b) (b == 95) word in
    one_sign stage fresh b rest plain (record {
      start = gap_open b rest ascii gap;
      line = line;
      word =
          ap (λ (x : Bool). x || b == 95) (or_first (is_letter b) (is_digit b) either)
          ∙ or_second (is_letter b || is_digit b) (b == 95) word;
      digit = or_second (is_letter b) (is_digit b) either;
      minus = minus;
    }) double ∙ ap mark_lexeme none

-- ---- the first line

raw_size : (n : ℕ) (s rest : List ℕ)
    → ((k : ℕ) → k < length s
    → ends_raw (slice_index (s ++ rest) k) (slice_index (s ++ rest) (k + 1)) ≡ false)
    → (0 < length rest → ends_raw (slice_index rest 0) (slice_index rest 1) ≡ true)
    → raw_from n (s ++ rest) ≡ n + length s
unfolding raw_from
raw_size n [] [] each ends = omega arith
raw_size n [] (c ∷ cs) each ends =
    when_true (ends_raw c (slice_index cs 0)) _ _ (ends (omega arith))
    ∙ (let same : n ≡ n + 0 = omega arith in same)
raw_size n (b ∷ bs) rest each ends =
    when_false (ends_raw b (slice_index (bs ++ rest) 0)) _ _ (each 0 (omega arith))
    ∙ raw_size (n + 1) bs rest
    (λ k lt. subst
    (λ (j : ℕ). ends_raw (slice_index (bs ++ rest) k) (slice_index (b ∷ (bs ++ rest)) j)
    ≡ false)
    (let same : suc k + 1 ≡ suc (k + 1) = omega arith in same)
    (each (suc k) (omega arith))) ends
    ∙ (let same : n + 1 + length bs ≡ n + suc (length bs) = omega arith in same)

first_stage : (stage : Stage) (fresh : Bool) (b : ℕ) (bs : List ℕ) → is_first stage ≡ true
    → stage_lexeme stage fresh (b ∷ bs) ≡ raw_lexeme (b ∷ bs) (raw_from 0 (b ∷ bs))
first_stage Magic fresh b bs e = refl
first_stage Title fresh b bs e = refl
first_stage TitleEnd fresh b bs e = absurd cc
first_stage Head fresh b bs e = absurd cc
first_stage (Init a w) fresh b bs e = absurd cc
first_stage (Header n) fresh b bs e = absurd cc
first_stage CellBegins fresh b bs e = absurd cc
first_stage InCell fresh b bs e = absurd cc
first_stage Tail fresh b bs e = absurd cc

first_raw : (stage : Stage) (fresh : Bool) (s rest : List ℕ) → is_first stage ≡ true → IsRaw s rest
    → first_lexeme stage fresh (s ++ rest) ≡ lexemes.Lexeme (tokens.Word s) (length s)
first_raw stage fresh [] rest first r = let some = r.some in absurd (omega arith)
first_raw stage fresh (b ∷ bs) rest first r =
    let goes : ends_raw b (slice_index (bs ++ rest) 0) ≡ false = r.each 0 (omega arith) in
    let comment = b == 40 && slice_index (bs ++ rest) 0 == 42 in
    let space_or = or_first ((is_blank b || is_line_end b) || is_not_ascii b) comment goes in
    let space = or_first (is_blank b || is_line_end b) (is_not_ascii b) space_or in
    let size : raw_from 0 (b ∷ (bs ++ rest)) ≡ length (b ∷ bs) = raw_size 0 (b ∷ bs) rest r.each r.ends ∙ (let z : 0 + suc (length bs) ≡ suc (length bs) = omega arith in z) in
    open_lexeme stage fresh b (bs ++ rest) (record {
      ascii = or_second (is_blank b || is_line_end b) (is_not_ascii b) space_or;
      blank = or_first (is_blank b) (is_line_end b) space;
      comment = or_second ((is_blank b || is_line_end b) || is_not_ascii b) comment goes;
    })
    ∙ first_stage stage fresh b (bs ++ rest) first
    ∙ when_false (is_line_end b) _ _ (or_second (is_blank b) (is_line_end b) space)
    ∙ ap (λ (k : ℕ). lexemes.Lexeme (tokens.Word (take k (b ∷ (bs ++ rest)))) k) size
    ∙ ap (λ (xs : List ℕ). lexemes.Lexeme (tokens.Word xs) (length (b ∷ bs)))
    (take_at (b ∷ bs) rest (length (b ∷ bs)) refl)

-- ---- before the init block

line_size : (line behind : List ℕ) → IsFirstLine line behind
    → position_or_len is_line_end (line ++ behind) ≡ length line
line_size line behind x =
    let l = length-append line behind in
    position_or_len_is is_line_end (line ++ behind) (length line) 0 (omega arith)
    (λ k lt. ap is_line_end (get_or_append_left line behind 0 k lt) ∙ x.each k lt)
    (λ lt. ap is_line_end (seam line behind) ∙ x.ends (omega arith))

-- a fresh line that begins with a letter
first_line : (text line behind : List ℕ) → IsFirstLine line behind → text ≡ line ++ behind
    → 0 < length text → is_letter (slice_index text 0) ≡ true
    → first_lexeme Head true text ≡ line_lexeme line
first_line [] line behind x whole some letter = absurd (omega arith)
first_line (b ∷ bs) line behind x whole some letter =
    open_lexeme Head true b bs (starts_open b bs (letter_word b letter))
    ∙ when_true (is_letter b) _ _ letter
    ∙ ap (λ (xs : List ℕ). line_lexeme (take (position_or_len is_line_end xs) xs)) whole
    ∙ ap line_lexeme (ap (λ (k : ℕ). take k (line ++ behind)) (line_size line behind x)
    ∙ take_at line behind (length line) refl)

first_keyline : (s rest : List ℕ) → IsKeyline s rest
    → first_lexeme Head true (s ++ rest) ≡ lexemes.Lexeme tokens.Keyline (length s)
first_keyline s rest k =
    let l = length-append k.line k.behind in
    let m = ap length k.whole in
    let in_line = k.in_line in
    let first : slice_index (s ++ rest) 0 ≡ slice_index k.line 0 = ap (λ (xs : List ℕ). slice_index xs 0) k.whole ∙ get_or_append_left k.line k.behind 0 0 (omega arith) in
    first_line (s ++ rest) k.line k.behind k.is_line k.whole (omega arith)
    (ap is_letter first ∙ k.letter)
    ∙ when_false (position_or_len is_equals k.line == length k.line) _ _ (false_from_ne_true _ (λ h.
    (let all = nesting.equal (position_or_len is_equals k.line) (length k.line) h in
    opposite (is_equals (slice_index k.line k.equals)) k.is_equals (fails_before_first is_equals
    k.line k.equals 0 (omega arith)))))
    ∙ ap (λ (n : ℕ). lexemes.Lexeme tokens.Keyline n) (position_or_len_is is_not_ascii k.line
    (length s) 0 k.within k.ascii k.stops)

first_no_keyline : (b : ℕ) (rest line behind : List ℕ) → is_letter b ≡ true → IsFirstLine line behind
    → b ∷ rest ≡ line ++ behind → LacksEquals line
    → first_lexeme Head true (b ∷ rest) ≡ lexemes.Lexeme tokens.Bad 1
first_no_keyline b rest line behind letter x whole lacks =
    first_line (b ∷ rest) line behind x whole (omega arith) letter
    ∙ when_true (position_or_len is_equals line == length line) _ _ (equals _ _
    (position_or_len_is is_equals line (length line) 0 (omega arith) lacks
    (λ lt. absurd (omega arith))))

first_quote : (fresh : Bool) (xs : List ℕ)
    → first_lexeme Head fresh (34 ∷ xs)
    ≡ quoted_lexeme (if position_or_len is_quote xs == length xs then None
    else Some (position_or_len is_quote xs + 2))
first_quote fresh xs =
    open_lexeme Head fresh 34 xs (byte_open 34 xs refl refl refl)
    ∙ when_false (fresh && false) _ _ (no_letter fresh)
  where
    no_letter : (x : Bool) → (x && false) ≡ false
    no_letter true = refl
    no_letter false = refl

first_quoted : (fresh : Bool) (inside s rest : List ℕ) → LacksQuote inside
    → s ≡ 34 ∷ (inside ++ 34 ∷ [])
    → first_lexeme Head fresh (s ++ rest) ≡ lexemes.Lexeme tokens.Text (length s)
first_quoted fresh inside s rest lacks is =
    let l = length-append inside (34 ∷ []) in
    let m = ap length is in
    let n = length-append inside (34 ∷ rest) in
    let at = quote_size inside rest lacks in
    let size : length inside + 2 ≡ length s = omega arith in
    ap (λ (xs : List ℕ). first_lexeme Head fresh (xs ++ rest)) is
    ∙ ap (λ (xs : List ℕ). first_lexeme Head fresh (34 ∷ xs)) (append_assoc inside (34 ∷ []) rest)
    ∙ first_quote fresh (inside ++ 34 ∷ rest)
    ∙ ap quoted_lexeme (when_false
    (position_or_len is_quote (inside ++ 34 ∷ rest) == length (inside ++ 34 ∷ rest)) None
    (Some (position_or_len is_quote (inside ++ 34 ∷ rest) + 2)) (false_from_ne_true _ (λ h.
    (
    let all =
    nesting.equal (position_or_len is_quote (inside ++ 34 ∷ rest))
    (length (inside ++ 34 ∷ rest)) h in
    absurd (omega arith)))))
    ∙ ap (λ (k : ℕ). lexemes.Lexeme tokens.Text (k + 2)) at
    ∙ ap (λ (k : ℕ). lexemes.Lexeme tokens.Text k) size

first_no_quoted : (fresh : Bool) (rest : List ℕ) → LacksQuote rest
    → first_lexeme Head fresh (34 ∷ rest) ≡ lexemes.Lexeme tokens.Bad 1
first_no_quoted fresh rest lacks =
    first_quote fresh rest
    ∙ ap quoted_lexeme (when_true (position_or_len is_quote rest == length rest) None
    (Some (position_or_len is_quote rest + 2)) (equals _ _ (open_size rest lacks)))

-- ---- comments that do not end

no_end : (s : List ℕ) → begins_comment s ≡ true → ((n : ℕ) → BeginsWithComment s n → ⊥)
    → (o : Option ℕ) → comment_of s ≡ o → comment_of s ≡ None
no_end s begins none None e = e
no_end s begins none (Some n) e = absurd (none n (nesting.found s n begins e))

first_open_comment : (stage : Stage) (fresh : Bool) (s : List ℕ) → begins_comment s ≡ true
    → ((n : ℕ) → BeginsWithComment s n → ⊥)
    → first_lexeme stage fresh s ≡ lexemes.Lexeme (tokens.Broken rules.OpenComment) (length s)
first_open_comment stage fresh [] begins none = absurd cc
first_open_comment stage fresh (b ∷ bs) begins none =
    let two = nesting.two_bytes 40 41 b bs begins in
    let are : b ∷ bs ≡ 40 ∷ 42 ∷ drop 1 bs = ap (λ (x : ℕ). x ∷ bs) two.0 ∙ ap (λ (xs : List ℕ). 40 ∷ xs) two.1 in
    ap (first_lexeme stage fresh) are ∙ first_comment stage fresh (drop 1 bs)
    ∙ ap (λ (xs : List ℕ). comment_lexeme (length xs) (comment_of xs)) (sym are)
    ∙ ap (comment_lexeme (length (b ∷ bs)))
    (no_end (b ∷ bs) begins none (comment_of (b ∷ bs)) refl)

-- ---- lexemes

-- a lexeme of one byte
sized : (stage : Stage) (fresh : Bool) (t u : Token) (b : ℕ) (s rest : List ℕ) → s ≡ b ∷ [] → t ≡ u
    → first_lexeme stage fresh (b ∷ rest) ≡ lexemes.Lexeme u 1
    → first_lexeme stage fresh (s ++ rest) ≡ lexemes.Lexeme t (length s)
sized stage fresh t u b s rest is k e =
    ap (λ (xs : List ℕ). first_lexeme stage fresh (xs ++ rest)) is ∙ e
    ∙ ap (λ (v : Token). lexemes.Lexeme v 1) (sym k)
    ∙ ap (λ (xs : List ℕ). lexemes.Lexeme t (length xs)) (sym is)

-- which token it is
told : (t u : Token) (n : ℕ) (f : NextLexeme) → t ≡ u → f ≡ lexemes.Lexeme u n → f ≡ lexemes.Lexeme t n
told t u n f k e = e ∙ ap (λ (v : Token). lexemes.Lexeme v n) (sym k)

gap_at : (b : ℕ) (s rest : List ℕ) → s ≡ b ∷ [] → begins_gap (s ++ rest) ≡ false
    → begins_gap (b ∷ rest) ≡ false
gap_at b s rest is gap = ap (λ (xs : List ℕ). begins_gap (xs ++ rest)) (sym is) ∙ gap

first_of_lexeme : (stage : Stage) (fresh : Bool) (t : Token) (s rest : List ℕ)
    → IsTestLexeme stage fresh t s rest → first_lexeme stage fresh (s ++ rest) ≡ lexemes.Lexeme t (length s)
first_of_lexeme stage fresh t s rest (FirstWord first raw k) =
    told t (tokens.Word s) (length s) _ k (first_raw stage fresh s rest first raw)
first_of_lexeme stage fresh t s rest (NameEnd here b e is k) =
    sized stage fresh t tokens.LineEnd b s rest is k (ap (λ (x : Stage). first_lexeme x fresh (b ∷ rest))
    here ∙ open_lexeme TitleEnd fresh b rest (line_open b rest e)
    ∙ when_true (is_line_end b) _ _ e)
first_of_lexeme stage fresh t s rest (Keyline here begins x k) =
    told t tokens.Keyline (length s) _ k (ap (λ (y : Stage). first_lexeme y fresh (s ++ rest)) here
    ∙ ap (λ (y : Bool). first_lexeme Head y (s ++ rest)) begins ∙ first_keyline s rest x)
first_of_lexeme stage fresh t s rest (Quoted here inside lacks is k) =
    told t tokens.Text (length s) _ k (ap (λ (x : Stage). first_lexeme x fresh (s ++ rest)) here
    ∙ first_quoted fresh inside s rest lacks is)
first_of_lexeme stage fresh t s rest (Word plain w none k) =
    told t (word_token stage s) (length s) _ k (first_word stage fresh s rest plain w
    ∙ other_word stage s rest w (λ here x. none here x.label x.others x.whole x.is))
first_of_lexeme stage fresh t s rest (Label here word x k) =
    told t (tokens.Label word) (length s) _ k (ap (λ (y : Stage). first_lexeme y fresh (s ++ rest)) here
    ∙ first_label fresh word s rest x)
first_of_lexeme stage fresh t s rest (Number plain some r k) =
    told t (tokens.Number false (significant s)) (length s) _ k
    (first_number stage fresh s rest plain some r)
first_of_lexeme stage fresh t s rest (Negative plain ds some r is k) =
    let l = ap length is in
    let size : length ds + 1 ≡ length s = omega arith in
    told t (tokens.Number true (significant ds)) (length s) _ k (ap
    (λ (xs : List ℕ). first_lexeme stage fresh (xs ++ rest)) is
    ∙ first_minus stage fresh ds rest plain some r
    ∙ ap (λ (n : ℕ). lexemes.Lexeme (tokens.Number true (significant ds)) n) size)
first_of_lexeme stage fresh t s rest (Double a b m plain double is k) =
    told t (tokens.Mark m) (length s) _ k (ap (λ (xs : List ℕ). first_lexeme stage fresh (xs ++ rest)) is
    ∙ first_double stage fresh a b m rest plain double
    ∙ ap (λ (xs : List ℕ). lexemes.Lexeme (tokens.Mark m) (length xs)) (sym is))
first_of_lexeme stage fresh t s rest (Single b m plain gap double one is k) =
    sized stage fresh t (tokens.Mark m) b s rest is k (first_single stage fresh b m rest plain
    (gap_at b s rest is gap) double one)
first_of_lexeme stage fresh t s rest (NotAscii b e is k) =
    sized stage fresh t (tokens.Broken rules.NotAscii) b s rest is k
    (first_ascii stage fresh b rest e)
first_of_lexeme stage fresh t s rest (OpenComment begins none end k) =
    told t (tokens.Broken rules.OpenComment) (length s) _ k (ap (first_lexeme stage fresh)
    (ap (λ (xs : List ℕ). s ++ xs) end ∙ append-nil s)
    ∙ first_open_comment stage fresh s begins none)
first_of_lexeme stage fresh t s rest (NoNameEnd here b line ascii gap is k) =
    sized stage fresh t tokens.Bad b s rest is k (ap (λ (x : Stage). first_lexeme x fresh (b ∷ rest)) here
    ∙ open_lexeme TitleEnd fresh b rest (gap_open b rest ascii (gap_at b s rest is gap))
    ∙ when_false (is_line_end b) _ _ line)
first_of_lexeme stage fresh t s rest (NoKeyline here begins b letter line behind x whole lacks is k) =
    sized stage fresh t tokens.Bad b s rest is k (ap (λ (y : Stage). first_lexeme y fresh (b ∷ rest)) here
    ∙ ap (λ (y : Bool). first_lexeme Head y (b ∷ rest)) begins
    ∙ first_no_keyline b rest line behind letter x
    (ap (λ (xs : List ℕ). xs ++ rest) (sym is) ∙ whole) lacks)
first_of_lexeme stage fresh t s rest (NoQuoted here lacks is k) =
    sized stage fresh t tokens.Bad 34 s rest is k (ap (λ (x : Stage). first_lexeme x fresh (34 ∷ rest))
    here ∙ first_no_quoted fresh rest lacks)
first_of_lexeme stage fresh t s rest (NoToken b plain ascii gap line word minus double none is k) =
    sized stage fresh t tokens.Bad b s rest is k (first_none stage fresh b rest plain ascii
    (gap_at b s rest is gap) line word minus double none)

-- ---- all pieces

end_tokens : (stage : Stage) (fresh : Bool) (n : ℕ)
    → tokens_from stage fresh 0 n [] ≡ record { token = tokens.End; offset = n } ∷ []
unfolding tokens_from
end_tokens stage fresh n = refl

turn : (stage : Stage) (fresh : Bool) (n b : ℕ) (bs : List ℕ)
    → tokens_from stage fresh 0 n (b ∷ bs)
    ≡ after_lexeme stage fresh n b (first_lexeme stage fresh (b ∷ bs))
    (λ s' fresh' skip. tokens_from s' fresh' skip (n + 1) bs)
unfolding tokens_from
turn stage fresh n b bs = refl

gap_turn : (stage : Stage) (fresh : Bool) (n : ℕ) (s rest : List ℕ) → 0 < length s
    → first_lexeme stage fresh (s ++ rest) ≡ lexemes.Layout (length s)
    → tokens_from stage fresh 0 n (s ++ rest)
    ≡ tokens_from stage (fresh_after fresh (slice_index s 0)) 0 (n + length s) rest
gap_turn stage fresh n [] rest some e = absurd (omega arith)
gap_turn stage fresh n (b ∷ bs) rest some e =
    let l = length-append bs rest in
    turn stage fresh n b (bs ++ rest)
    ∙ ap
    (λ (f : NextLexeme). after_lexeme stage fresh n b f (λ s' fresh' skip.
    tokens_from s' fresh' skip (n + 1) (bs ++ rest))) e
    ∙ skipped stage (fresh_after fresh b) (length bs) n (bs ++ rest) (omega arith)
    ∙ ap (tokens_from stage (fresh_after fresh b) 0 (n + suc (length bs)))
    (drop_at bs rest (length bs) refl)

lexeme_turn : (stage : Stage) (fresh : Bool) (n : ℕ) (t : Token) (s rest : List ℕ) → 0 < length s
    → first_lexeme stage fresh (s ++ rest) ≡ lexemes.Lexeme t (length s)
    → tokens_from stage fresh 0 n (s ++ rest)
    ≡ record { token = t; offset = n }
    ∷ tokens_from (next_stage stage t) (ends_line t) 0 (n + length s) rest
lexeme_turn stage fresh n t [] rest some e = absurd (omega arith)
lexeme_turn stage fresh n t (b ∷ bs) rest some e =
    let l = length-append bs rest in
    turn stage fresh n b (bs ++ rest)
    ∙ ap
    (λ (f : NextLexeme). after_lexeme stage fresh n b f (λ s' fresh' skip.
    tokens_from s' fresh' skip (n + 1) (bs ++ rest))) e
    ∙ ap (λ (ps : List TokenAt). record { token = t; offset = n } ∷ ps) (skipped (next_stage stage t)
    (ends_line t) (length bs) n (bs ++ rest) (omega arith)
    ∙ ap (tokens_from (next_stage stage t) (ends_line t) 0 (n + suc (length bs)))
    (drop_at bs rest (length bs) refl))

of_pieces : (stage : Stage) (fresh : Bool) (n : ℕ) (ps : List TestPiece) → ArePieces stage fresh ps
    → tokens_from stage fresh 0 n (test_text_of ps) ≡ tokens_at n ps
of_pieces stage fresh n [] h = end_tokens stage fresh n
of_pieces stage fresh n (Gap s ∷ ps) h =
    gap_turn stage fresh n s (test_text_of ps) (gap_bytes stage s (test_text_of ps) h.0)
    (first_gap stage fresh s (test_text_of ps) h.0)
    ∙ of_pieces stage (fresh_after fresh (slice_index s 0)) (n + length s) ps h.1
of_pieces stage fresh n (Lexeme t s ∷ ps) h =
    lexeme_turn stage fresh n t s (test_text_of ps) (lexeme_bytes stage fresh t s (test_text_of ps) h.0)
    (first_of_lexeme stage fresh t s (test_text_of ps) h.0)
    ∙ ap (λ (qs : List TokenAt). record { token = t; offset = n } ∷ qs)
    (of_pieces (next_stage stage t) (ends_line t) (n + length s) ps h.1)

pub only_cut : (stage : Stage) (bytes : List ℕ) (ps : List TokenAt) → IsTestCut stage bytes ps
    → test_lexing stage bytes ≡ ps
only_cut stage bytes ps c =
    ap (test_lexing stage) (sym c.whole) ∙ of_pieces stage false 0 c.pieces c.fine ∙ c.tokens
