-- The text of a test is cut into gaps and lexemes.
use Rattle.std.proofs.Common.{◌≡◌, ℕ, zero, suc, ◌+◌, ◌-◌, ◌<◌, ◌≤◌, ◌⊎◌, inl, inr, Bool, true, false, List, [], ◌∷◌, ◌++◌, length, get_or, take, drop, refl, sym, ap, ◌∙◌, subst, arith, append_assoc}
use Rattle.std.specs.Prelude.{Option, Some, None, slice_index, ◌==◌, ◌&&◌, ◌||◌, not, if◌then◌else◌}
use Rattle.std.specs.List.{position_or_len}
use Rattle.std.proofs.lemmas.Bool.{cases_lt, or_from, not-false, not-true}
use Rattle.std.proofs.lemmas.Bool.Decides.{nat_tests}
use Rattle.std.proofs.lemmas.List.{length-take, length-drop, length-append, get_or-take, get_or-drop, take-append-drop, take_all, drop_all, take_at, drop_at}
use Rattle.std.proofs.lemmas.List.Sums.{fails_before_first, passes_at_first}
use Rattle.text_values.specs.Letters.{is_letter, is_digit}
use Rattle.text_values.specs.Layout.{is_blank, is_line_end, is_quote, quoted_from, comment_of}
use Rattle.text_laws.specs.Comments.{BeginsWithComment}
use Rattle.text_laws.proofs.Nesting as nesting
use Rattle.text_laws.proofs.Runs.{opposite, equals, less, pos_some, pos_le, first_in_take, lacks_before, string_text, tested, or_first, or_second, seam}
use Rattle.litmus_tokens.specs.declared.rule.LitmusRule.TheVariants as rules
use Rattle.litmus_tokens.specs.declared.stage.Stage.{Stage}
use Rattle.litmus_tokens.specs.declared.stage.Stage.TheVariants.{Magic, Title, TitleEnd, Head, Init, Header, CellBegins, InCell, Tail}
use Rattle.litmus_tokens.specs.declared.token.Mark as mark
use Rattle.litmus_tokens.specs.declared.token.Mark.TheVariants.{And, Or, Implies}
use Rattle.litmus_tokens.specs.declared.token.Token.{Token}
use Rattle.litmus_tokens.specs.declared.token.Token.TheVariants as tokens
use Rattle.litmus_tokens.specs.declared.lexer.NextLexeme.{NextLexeme}
use Rattle.litmus_tokens.specs.declared.lexer.NextLexeme.TheVariants as lexemes
use Rattle.litmus_tokens.specs.Lexer.{is_not_ascii, is_word_byte, ends_word, ends_digits, is_equals, is_space, begins_comment, gap_from, comment_lexeme, ends_raw, raw_from, raw_lexeme, quoted_lexeme, line_lexeme, word_token, word_lexeme, significant, number_lexeme, minus_lexeme, mark_of, mark_lexeme, sign_lexeme, plain_lexeme, head_lexeme, stage_lexeme, first_lexeme}
use Rattle.litmus_tokens.specs.Stage.{next_stage}
use Rattle.litmus_tokens.specs.Texts.{TokenAt, ends_line, fresh_after, after_lexeme, tokens_from, test_lexing}
use Rattle.litmus_laws.specs.Tokens.{IsTestGap, Blank, LineEnd, Comment, begins_gap, IsByteRun, IsWordLexeme, gaps_text, AreGaps, IsLabelLexeme, IsFirstLine, IsKeyline, is_first, is_plain, double_of, IsTestLexeme, FirstWord, NameEnd, Keyline, Quoted, Word, Label, Number, Negative, Double, Single, NotAscii, OpenComment, NoNameEnd, NoKeyline, NoQuoted, NoToken, TestPiece, Gap, Lexeme, test_text_of, ArePieces, tokens_at, IsTestCut, AreTestRising}
use Rattle.litmus_grammar.proofs.Lexed.{tokens_skip}
use Rattle.litmus_laws.proofs.Gaps.{gaps_of, all_gaps}

abbrev IsPiece : Stage → Bool → List ℕ → NextLexeme → Type 0
IsPiece s fresh text (lexemes.Layout n) =
    (0 < n) × (n ≤ length text) × IsTestGap s (take n text) (drop n text)
IsPiece s fresh text (lexemes.Lexeme t n) =
    (0 < n) × (n ≤ length text) × IsTestLexeme s fresh t (take n text) (drop n text)

-- ---- runs

run_of : (p : ℕ → Bool) (xs : List ℕ)
    → IsByteRun p (take (position_or_len (λ b. not (p b)) xs) xs)
    (drop (position_or_len (λ b. not (p b)) xs) xs)
run_of p xs = record { each = each; ends = ends }
  where
    each : (k : ℕ) → k < length (take (position_or_len (λ b. not (p b)) xs) xs)
        → p (slice_index (take (position_or_len (λ b. not (p b)) xs) xs) k) ≡ true
    each k lt =
        let n = position_or_len (λ b. not (p b)) xs in
        let l = length-take n xs in
        ap p (get_or-take n xs k 0 (omega arith))
        ∙ not-false (p (get_or xs k 0))
        (fails_before_first (λ b. not (p b)) xs k 0 (omega arith))

    ends : 0 < length (drop (position_or_len (λ b. not (p b)) xs) xs)
        → p (slice_index (drop (position_or_len (λ b. not (p b)) xs) xs) 0) ≡ false
    ends lt =
        let n = position_or_len (λ b. not (p b)) xs in
        let l = length-drop n xs in
        ap p (get_or-drop n xs 0 0 ∙ ap (λ (k : ℕ). get_or xs k 0) (omega arith))
        ∙ not-true (p (get_or xs n 0)) (passes_at_first (λ b. not (p b)) xs 0 (omega arith))

-- the bytes of a raw word
record RawRun (n : ℕ) (bs : List ℕ) : Type 0 where
  size : ℕ
  counted : raw_from n bs ≡ n + size
  le : size ≤ length bs
  each : (k : ℕ) → k < size → ends_raw (slice_index bs k) (slice_index bs (k + 1)) ≡ false
  ends : size < length bs → ends_raw (slice_index bs size) (slice_index bs (size + 1)) ≡ true

raw_run : (n : ℕ) (bs : List ℕ) → RawRun n bs
unfolding raw_from
raw_run n [] =
    record {
      size = 0;
      counted = omega arith;
      le = omega arith;
      each = λ k lt. absurd (omega arith);
      ends = λ lt. absurd (omega arith);
    }
raw_run n (b ∷ bs) = by_test (ends_raw b (slice_index bs 0)) refl (raw_run (n + 1) bs)
  where
    each_of : (r : RawRun (n + 1) bs) → ends_raw b (slice_index bs 0) ≡ false → (k : ℕ)
        → k < r.size + 1 → ends_raw (slice_index (b ∷ bs) k) (slice_index (b ∷ bs) (k + 1)) ≡ false
    each_of r e zero lt = e
    each_of r e (suc k) lt =
        subst (λ (j : ℕ). ends_raw (slice_index bs k) (slice_index (b ∷ bs) j) ≡ false)
        (let same : suc (k + 1) ≡ suc k + 1 = omega arith in same) (r.each k (omega arith))

    by_test : (x : Bool) → ends_raw b (slice_index bs 0) ≡ x → RawRun (n + 1) bs → RawRun n (b ∷ bs)
    by_test true e r = record {
      size = 0;
      counted =
          ap (λ (x : Bool). if x then n else raw_from (n + 1) bs) e
          ∙ (let same : n ≡ n + 0 = omega arith in same);
      le = omega arith;
      each = λ k lt. absurd (omega arith);
      ends = λ _. e;
    }
    by_test false e r = record {
      size = r.size + 1;
      counted =
          ap (λ (x : Bool). if x then n else raw_from (n + 1) bs) e ∙ r.counted
          ∙ (let same : n + 1 + r.size ≡ n + (r.size + 1) = omega arith in same);
      le = let le = r.le in omega arith;
      each = each_of r e;
      ends = λ lt.
          let more : r.size + 1 ≡ suc r.size = omega arith in
          let end : ends_raw (slice_index bs r.size) (slice_index (b ∷ bs) (suc (r.size + 1))) ≡ true = r.ends (omega arith) in
          subst (λ (k : ℕ). ends_raw (slice_index (b ∷ bs) k) (slice_index (b ∷ bs) (k + 1)) ≡ true)
          (sym more) (subst
          (λ (j : ℕ). ends_raw (slice_index bs r.size) (slice_index (b ∷ bs) j) ≡ true)
          (let same : suc (r.size + 1) ≡ suc r.size + 1 = omega arith in same) end);
    }

-- ---- what every part has

ascii_piece : (s : Stage) (fresh : Bool) (b : ℕ) (bs : List ℕ) → is_not_ascii b ≡ true
    → IsPiece s fresh (b ∷ bs) (lexemes.Lexeme (tokens.Broken rules.NotAscii) 1)
ascii_piece s fresh b bs e = (omega arith, omega arith, NotAscii b e refl refl)

blank_piece : (s : Stage) (fresh : Bool) (b : ℕ) (bs : List ℕ) → is_blank b ≡ true
    → IsPiece s fresh (b ∷ bs) (lexemes.Layout 1)
blank_piece s fresh b bs e = (omega arith, omega arith, Blank b e refl)

line_end_piece : (s : Stage) (fresh : Bool) (b : ℕ) (bs : List ℕ) → (s ≡ TitleEnd → ⊥)
    → is_line_end b ≡ true → IsPiece s fresh (b ∷ bs) (lexemes.Layout 1)
line_end_piece s fresh b bs apart e = (omega arith, omega arith, LineEnd apart b e refl)

comment_piece : (s : Stage) (fresh : Bool) (b : ℕ) (bs : List ℕ) → begins_comment (b ∷ bs) ≡ true
    → (o : Option ℕ) → comment_of (b ∷ bs) ≡ o
    → IsPiece s fresh (b ∷ bs) (comment_lexeme (length (b ∷ bs)) o)
comment_piece s fresh b bs begins (Some n) e =
    let c = nesting.found (b ∷ bs) n begins e in
    let l = length-take n (b ∷ bs) in
    let long = c.long in
    let same : length (take n (b ∷ bs)) ≡ n = omega arith in (
      nesting.some_bytes (b ∷ bs) n c,
      omega arith,
      Comment (subst (BeginsWithComment (take n (b ∷ bs) ++ drop n (b ∷ bs))) (sym same)
          (subst (λ (xs : List ℕ). BeginsWithComment xs n)
          (sym (take-append-drop n (b ∷ bs))) c)),
    )
comment_piece s fresh b bs begins None e =
    let all = take_all (length (b ∷ bs)) (b ∷ bs) (omega arith) in (
      omega arith,
      omega arith,
      OpenComment (ap begins_comment all ∙ begins)
          (λ n c. nesting.unended (b ∷ bs) n e
          (subst (λ (xs : List ℕ). BeginsWithComment xs n) all c))
          (drop_all (length (b ∷ bs)) (b ∷ bs) (omega arith)) refl,
    )

-- what has been looked at before the part is
pub record IsOpen (b : ℕ) (bs : List ℕ) : Type 0 where
  pub ascii : is_not_ascii b ≡ false
  pub blank : is_blank b ≡ false
  pub comment : begins_comment (b ∷ bs) ≡ false

no_gap : (b : ℕ) (bs : List ℕ) → IsOpen b bs → begins_gap (b ∷ bs) ≡ false
no_gap b bs o = or_from (is_blank b) (begins_comment (b ∷ bs)) o.blank o.comment

-- ---- the first line

raw_piece : (s : Stage) (fresh : Bool) (b : ℕ) (bs : List ℕ) → (s ≡ TitleEnd → ⊥)
    → is_first s ≡ true → IsOpen b bs
    → IsPiece s fresh (b ∷ bs) (raw_lexeme (b ∷ bs) (raw_from 0 (b ∷ bs)))
raw_piece s fresh b bs apart first o =
    tested (IsPiece s fresh (b ∷ bs)) (is_line_end b) _ _ (line_end_piece s fresh b bs apart) word
  where
    word : is_line_end b ≡ false
        → IsPiece s fresh (b ∷ bs) (lexemes.Lexeme
        (tokens.Word (take (raw_from 0 (b ∷ bs)) (b ∷ bs))) (raw_from 0 (b ∷ bs)))
    word line =
        let r = raw_run 0 (b ∷ bs) in
        let m = r.size in
        let same : raw_from 0 (b ∷ bs) ≡ m = r.counted ∙ (let e : 0 + m ≡ m = omega arith in e) in
        let goes : ends_raw b (slice_index bs 0) ≡ false =
        or_from (is_space b || is_not_ascii b) (b == 40 && slice_index bs 0 == 42)
        (or_from (is_space b) (is_not_ascii b)
        (or_from (is_blank b) (is_line_end b) o.blank line) o.ascii) o.comment in
        let le = r.le in
        let l = length-take m (b ∷ bs) in
        let d = length-drop m (b ∷ bs) in
        let whole = take-append-drop m (b ∷ bs) in
        subst
        (λ (n : ℕ). IsPiece s fresh (b ∷ bs) (lexemes.Lexeme (tokens.Word (take n (b ∷ bs))) n))
        (sym same) (
          some m r goes,
          le,
          FirstWord first (record {
            some = let x = some m r goes in omega arith;
            each =
                λ k lt. subst
                (λ (xs : List ℕ). ends_raw (slice_index xs k) (slice_index xs (k + 1)) ≡ false)
                (sym whole) (r.each k (omega arith));
            ends =
                λ lt. ap (λ (x : ℕ). ends_raw x (slice_index (drop m (b ∷ bs)) 1))
                (get_or-drop m (b ∷ bs) 0 0
                ∙ ap (λ (k : ℕ). get_or (b ∷ bs) k 0)
                (let e : m + 0 ≡ m = omega arith in e))
                ∙ ap (ends_raw (slice_index (b ∷ bs) m)) (get_or-drop m (b ∷ bs) 1 0)
                ∙ r.ends (omega arith);
          }) refl,
        )
      where
        some : (m : ℕ) (r : RawRun 0 (b ∷ bs)) → ends_raw b (slice_index bs 0) ≡ false → 0 < r.size
        some m r goes = by_size (cases_lt 0 r.size)
          where
            by_size : (0 < r.size) ⊎ (r.size ≤ 0) → 0 < r.size
            by_size (inl lt) = lt
            by_size (inr le) =
                let none : r.size ≡ 0 = omega arith in
                let end = r.ends (omega arith) in
                absurd (opposite (ends_raw b (slice_index bs 0))
                (subst
                (λ (k : ℕ). ends_raw (slice_index (b ∷ bs) k)
                (slice_index (b ∷ bs) (k + 1)) ≡ true) none end) goes)

name_end_piece : (fresh : Bool) (b : ℕ) (bs : List ℕ) → IsOpen b bs
    → IsPiece TitleEnd fresh (b ∷ bs) (if is_line_end b then lexemes.Lexeme tokens.LineEnd 1
    else lexemes.Lexeme tokens.Bad 1)
name_end_piece fresh b bs o =
    tested (IsPiece TitleEnd fresh (b ∷ bs)) (is_line_end b) _ _ (λ e.
    (omega arith, omega arith, NameEnd refl b e refl refl))
    (λ e. (omega arith, omega arith, NoNameEnd refl b e o.ascii (no_gap b bs o) refl refl))

-- ---- words, numbers and marks

word_start : (b : ℕ) → (is_letter b || b == 95) ≡ true → is_word_byte b ≡ true
word_start b h = grind (arith, nat_tests)

module _ (s : Stage) (fresh : Bool) (b : ℕ) (bs : List ℕ) (apart : s ≡ TitleEnd → ⊥)
    (plain : is_plain s fresh b ≡ true) (o : IsOpen b bs) where
  plain_take : (n : ℕ) → 0 < n → is_plain s fresh (slice_index (take n (b ∷ bs)) 0) ≡ true
  plain_take n some = ap (is_plain s fresh) (first_in_take n b bs some) ∙ plain

  module _ (starts : (is_letter b || b == 95) ≡ true) where
    word_some : 0 < position_or_len ends_word (b ∷ bs)
    word_some = pos_some ends_word b bs (ap not (word_start b starts))

    is_word : IsWordLexeme (take (position_or_len ends_word (b ∷ bs)) (b ∷ bs))
        (drop (position_or_len ends_word (b ∷ bs)) (b ∷ bs))
    is_word = record {
      first =
          ap (λ (x : ℕ). is_letter x || x == 95) (first_in_take (position_or_len ends_word (b ∷ bs))
          b bs word_some) ∙ starts;
      run = run_of is_word_byte (b ∷ bs);
    }

    abbrev NoLabel : Type 0
    NoLabel =
        s ≡ CellBegins → (label others : List ℕ)
        → label ++ others
        ≡ take (position_or_len ends_word (b ∷ bs)) (b ∷ bs)
        ++ drop (position_or_len ends_word (b ∷ bs)) (b ∷ bs)
        → IsLabelLexeme (take (position_or_len ends_word (b ∷ bs)) (b ∷ bs)) label others → ⊥

    word_piece : NoLabel
        → IsPiece s fresh (b ∷ bs) (lexemes.Lexeme
        (word_token s (take (position_or_len ends_word (b ∷ bs)) (b ∷ bs)))
        (position_or_len ends_word (b ∷ bs)))
    word_piece none = (
      word_some,
      pos_le ends_word (b ∷ bs),
      Word (plain_take (position_or_len ends_word (b ∷ bs)) word_some) is_word none refl,
    )

  number_piece : is_digit b ≡ true
      → IsPiece s fresh (b ∷ bs) (number_lexeme (b ∷ bs) (position_or_len ends_digits (b ∷ bs)))
  number_piece digit =
      let n = position_or_len ends_digits (b ∷ bs) in
      let some : 0 < n = pos_some ends_digits b bs (ap not digit) in
      let le = pos_le ends_digits (b ∷ bs) in
      let l = length-take n (b ∷ bs) in
      (some, le, Number (plain_take n some) (omega arith) (run_of is_digit (b ∷ bs)) refl)

  minus_piece : (b == 45 && is_digit (slice_index bs 0)) ≡ true
      → IsPiece s fresh (b ∷ bs) (minus_lexeme bs (position_or_len ends_digits bs))
  minus_piece minus =
      let x = nesting.both (b == 45) (is_digit (slice_index bs 0)) minus in
      let first : b ≡ 45 = nesting.equal b 45 x.0 in
      let n = position_or_len ends_digits bs in
      let le = pos_le ends_digits bs in
      let l = length-take n bs in
      let more : n + 1 ≡ suc n = omega arith in
      let some : 0 < n = digits_some bs x.1 in
      subst
      (λ (k : ℕ). IsPiece s fresh (b ∷ bs) (lexemes.Lexeme
      (tokens.Number true (significant (take n bs))) k))
      (sym more) (
        omega arith,
        omega arith,
        Negative (ap (is_plain s fresh) (sym first) ∙ plain) (take n bs) (omega arith)
            (run_of is_digit bs) (ap (λ (k : ℕ). k ∷ take n bs) first) refl,
      )
    where
      digits_some : (xs : List ℕ) → is_digit (slice_index xs 0) ≡ true
          → 0 < position_or_len ends_digits xs
      digits_some [] e = absurd cc
      digits_some (c ∷ cs) e = pos_some ends_digits c cs (ap not e)

  double_piece : (a c : ℕ) (m : mark.Mark) → (b == a && slice_index bs 0 == suc c) ≡ true
      → double_of a (suc c) ≡ Some m → IsPiece s fresh (b ∷ bs) (lexemes.Lexeme (tokens.Mark m) 2)
  double_piece a c m e is =
      let are = nesting.two_bytes a c b bs e in
      let l = ap length are.1 in
      let same : b ∷ bs ≡ a ∷ suc c ∷ drop 1 bs = ap (λ (x : ℕ). x ∷ bs) are.0 ∙ ap (λ (xs : List ℕ). a ∷ xs) are.1 in (
        omega arith,
        omega arith,
        Double a (suc c) m (ap (is_plain s fresh) (sym are.0) ∙ plain) is (ap (take 2) same)
            refl,
      )

  mark_piece : is_line_end b ≡ false → is_word_byte b ≡ false
      → (b == 45 && is_digit (slice_index bs 0)) ≡ false → double_of b (slice_index bs 0) ≡ None
      → (m : Option mark.Mark) → mark_of b ≡ m → IsPiece s fresh (b ∷ bs) (mark_lexeme m)
  mark_piece line word minus double (Some m) e =
      (omega arith, omega arith, Single b m plain (no_gap b bs o) double e refl refl)
  mark_piece line word minus double None e = (
    omega arith,
    omega arith,
    NoToken b plain o.ascii (no_gap b bs o) line word minus double e refl refl,
  )

  no_double : (b == 47 && slice_index bs 0 == 92) ≡ false
      → (b == 92 && slice_index bs 0 == 47) ≡ false → (b == 61 && slice_index bs 0 == 62) ≡ false
      → double_of b (slice_index bs 0) ≡ None
  no_double x y z =
      ap
      (λ (t : Bool). if t then Some And
      else (if b == 92 && slice_index bs 0 == 47 then Some Or
      else (if b == 61 && slice_index bs 0 == 62 then Some Implies else None))) x
      ∙ ap
      (λ (t : Bool). if t then Some Or
      else (if b == 61 && slice_index bs 0 == 62 then Some Implies else None)) y
      ∙ ap (λ (t : Bool). if t then Some Implies else None) z

  sign_piece : is_line_end b ≡ false → is_word_byte b ≡ false
      → (b == 45 && is_digit (slice_index bs 0)) ≡ false
      → IsPiece s fresh (b ∷ bs) (sign_lexeme b (slice_index bs 0))
  sign_piece line word minus =
      tested (IsPiece s fresh (b ∷ bs)) (b == 47 && slice_index bs 0 == 92) _ _
      (λ e. double_piece 47 91 And e refl) (λ x.
      tested (IsPiece s fresh (b ∷ bs)) (b == 92 && slice_index bs 0 == 47) _ _
      (λ e. double_piece 92 46 Or e refl) (λ y.
      tested (IsPiece s fresh (b ∷ bs)) (b == 61 && slice_index bs 0 == 62) _ _
      (λ e. double_piece 61 61 Implies e refl) (λ z.
      mark_piece line word minus (no_double x y z) (mark_of b) refl)))

  no_word_byte : (is_letter b || b == 95) ≡ false → is_digit b ≡ false → is_word_byte b ≡ false
  no_word_byte x y =
      or_from (is_letter b || is_digit b) (b == 95)
      (or_from (is_letter b) (is_digit b) (or_first (is_letter b) (b == 95) x) y)
      (or_second (is_letter b) (b == 95) x)

  -- by the piece of a word, which rests on the part
  plain_piece : ((is_letter b || b == 95) ≡ true
      → IsPiece s fresh (b ∷ bs)
      (word_lexeme s (b ∷ bs) (position_or_len ends_word (b ∷ bs))))
      → IsPiece s fresh (b ∷ bs) (plain_lexeme s (b ∷ bs))
  plain_piece words =
      tested (IsPiece s fresh (b ∷ bs)) (is_line_end b) _ _ (line_end_piece s fresh b bs apart) (λ
      line.
      tested (IsPiece s fresh (b ∷ bs)) (is_letter b || b == 95) _ _ words (λ word.
      tested (IsPiece s fresh (b ∷ bs)) (is_digit b) _ _ number_piece (λ digit.
      tested (IsPiece s fresh (b ∷ bs)) (b == 45 && is_digit (slice_index bs 0)) _ _ minus_piece
      (λ minus. sign_piece line (no_word_byte word digit) minus))))

-- ---- words and labels where a cell begins

pub cons_at : (bs : List ℕ) → slice_index bs 0 ≡ 58 → bs ≡ 58 ∷ drop 1 bs
cons_at [] e = absurd (omega arith)
cons_at (b ∷ bs) e = ap (λ (k : ℕ). k ∷ bs) e

behind_same : (xs ys zs : List ℕ) → xs ++ ys ≡ xs ++ zs → ys ≡ zs
behind_same xs ys zs e =
    sym (drop_at xs ys (length xs) refl) ∙ ap (drop (length xs)) e ∙ drop_at xs zs (length xs) refl

module _ (fresh : Bool) (b : ℕ) (bs : List ℕ) (o : IsOpen b bs)
    (starts : (is_letter b || b == 95) ≡ true) where
  label_piece : (n gap : ℕ) → n ≡ position_or_len ends_word (b ∷ bs)
      → gap ≡ gap_from 0 0 (drop n (b ∷ bs)) → (x : Bool)
      → (slice_index (b ∷ bs) (n + gap) == 58) ≡ x
      → IsPiece CellBegins fresh (b ∷ bs) (if x then lexemes.Lexeme (tokens.Label (take n (b ∷ bs)))
      (n + gap + 1)
      else lexemes.Lexeme (tokens.Word (take n (b ∷ bs))) n)
  label_piece n gap size gaps true e =
      let f = gaps_of (drop n (b ∷ bs)) in
      let g = gaps_text f.gaps in
      let W = take n (b ∷ bs) in
      let le = pos_le ends_word (b ∷ bs) in
      let l = length-take n (b ∷ bs) in
      let count : gap ≡ length g = gaps ∙ f.count ∙ (let z : 0 + length g ≡ length g = omega arith in z) in
      let there : get_or f.rest 0 0 ≡ 58 =
      sym (seam g f.rest) ∙ ap (λ (xs : List ℕ). get_or xs (length g) 0) (sym f.whole)
      ∙ ap (λ (k : ℕ). get_or (drop n (b ∷ bs)) k 0) (sym count) ∙ get_or-drop n (b ∷ bs) gap 0
      ∙ nesting.equal (slice_index (b ∷ bs) (n + gap)) 58 e in
      let rest = cons_at f.rest there in
      let others = drop 1 f.rest in
      let whole : b ∷ bs ≡ (W ++ (g ++ 58 ∷ [])) ++ others =
      sym (take-append-drop n (b ∷ bs))
      ∙ ap (λ (xs : List ℕ). W ++ xs) (f.whole ∙ ap (λ (xs : List ℕ). g ++ xs) rest
      ∙ sym (append_assoc g (58 ∷ []) others))
      ∙ sym (append_assoc W (g ++ 58 ∷ []) others) in
      let a1 = length-append W (g ++ 58 ∷ []) in
      let a2 = length-append g (58 ∷ []) in
      let a3 = length-append (W ++ (g ++ 58 ∷ [])) others in
      let a4 = ap length whole in
      let long : length (W ++ (g ++ 58 ∷ [])) ≡ n + gap + 1 = omega arith in
      let spelled_lexeme : take (n + gap + 1) (b ∷ bs) ≡ W ++ (g ++ 58 ∷ []) = ap (take (n + gap + 1)) whole ∙ take_at (W ++ (g ++ 58 ∷ [])) others (n + gap + 1) long in
      let dropped : drop (n + gap + 1) (b ∷ bs) ≡ others = ap (drop (n + gap + 1)) whole ∙ drop_at (W ++ (g ++ 58 ∷ [])) others (n + gap + 1) long in
      let behind : drop n (b ∷ bs) ≡ g ++ 58 ∷ others = f.whole ∙ ap (λ (xs : List ℕ). g ++ xs) rest in
      let word : IsWordLexeme W (drop n (b ∷ bs)) = subst (λ (k : ℕ). IsWordLexeme (take k (b ∷ bs)) (drop k (b ∷ bs))) (sym size) (is_word CellBegins fresh b bs (λ k. absurd cc) refl o starts) in (
        omega arith,
        omega arith,
        Label refl W (subst (λ (xs : List ℕ). IsLabelLexeme W (take (n + gap + 1) (b ∷ bs)) xs)
            (sym dropped) (record {
              gaps = f.gaps;
              is_word = subst (IsWordLexeme W) behind word;
              between = subst (AreGaps f.gaps) rest f.are;
              whole = spelled_lexeme;
            })) refl,
      )
  label_piece n gap size gaps false e =
      let W = take n (b ∷ bs) in
      let R = drop n (b ∷ bs) in
      let none : (label others : List ℕ) → label ++ others ≡ W ++ R → IsLabelLexeme W label others → ⊥ = λ label others is x.
      (let g = gaps_text x.gaps in
      let same : g ++ 58 ∷ others ≡ R =
      behind_same W (g ++ 58 ∷ others) R
      (ap (λ (xs : List ℕ). W ++ xs) (sym (append_assoc g (58 ∷ []) others))
      ∙ sym (append_assoc W (g ++ 58 ∷ []) others)
      ∙ ap (λ (xs : List ℕ). xs ++ others) (sym x.whole) ∙ is) in
      let count : gap ≡ length g = gaps ∙ ap (gap_from 0 0) (sym same) ∙ all_gaps 0 x.gaps others x.between ∙ (let z : 0 + length g ≡ length g = omega arith in z) in
      let there : slice_index (b ∷ bs) (n + gap) ≡ 58 = sym (get_or-drop n (b ∷ bs) gap 0) ∙ ap (λ (xs : List ℕ). get_or xs gap 0) (sym same) ∙ ap (λ (k : ℕ). get_or (g ++ 58 ∷ others) k 0) count ∙ seam g (58 ∷ others) in
      opposite (slice_index (b ∷ bs) (n + gap) == 58) (equals _ 58 there) e) in
      subst
      (λ (k : ℕ).
      IsPiece CellBegins fresh (b ∷ bs) (lexemes.Lexeme (tokens.Word (take k (b ∷ bs))) k))
      (sym size)
      (word_piece CellBegins fresh b bs (λ k. absurd cc) refl o starts (λ _. subst
      (λ (k : ℕ). (label others : List ℕ)
      → label ++ others ≡ take k (b ∷ bs) ++ drop k (b ∷ bs)
      → IsLabelLexeme (take k (b ∷ bs)) label others → ⊥) size none))

  cell_words : IsPiece CellBegins fresh (b ∷ bs) (word_lexeme CellBegins (b ∷ bs)
      (position_or_len ends_word (b ∷ bs)))
  cell_words =
      label_piece (position_or_len ends_word (b ∷ bs))
      (gap_from 0 0 (drop (position_or_len ends_word (b ∷ bs)) (b ∷ bs))) refl refl _ refl

-- ---- before the init block

line_of : (xs : List ℕ)
    → IsFirstLine (take (position_or_len is_line_end xs) xs) (drop (position_or_len is_line_end xs) xs)
line_of xs = record {
  each = λ k lt.
      let l = length-take (position_or_len is_line_end xs) xs in
      ap is_line_end (get_or-take (position_or_len is_line_end xs) xs k 0 (omega arith))
      ∙ fails_before_first is_line_end xs k 0 (omega arith);
  ends = λ lt.
      let l = length-drop (position_or_len is_line_end xs) xs in
      ap is_line_end (get_or-drop (position_or_len is_line_end xs) xs 0 0
      ∙ ap (λ (k : ℕ). get_or xs k 0) (omega arith))
      ∙ passes_at_first is_line_end xs 0 (omega arith);
}

letter_no_end : (b : ℕ) → is_letter b ≡ true → is_line_end b ≡ false
letter_no_end b h = grind (arith, nat_tests)

module _ (b : ℕ) (bs : List ℕ) (o : IsOpen b bs) (letter : is_letter b ≡ true) where
  keyline_piece : (n m : ℕ) → n ≡ position_or_len is_line_end (b ∷ bs)
      → m ≡ position_or_len is_not_ascii (take n (b ∷ bs)) → (x : Bool)
      → (position_or_len is_equals (take n (b ∷ bs)) == length (take n (b ∷ bs))) ≡ x
      → IsPiece Head true (b ∷ bs) (if x then lexemes.Lexeme tokens.Bad 1
      else lexemes.Lexeme tokens.Keyline m)
  keyline_piece n m size ascii true e =
      let line = take n (b ∷ bs) in
      let all = nesting.equal (position_or_len is_equals line) (length line) e in
      let is_line : IsFirstLine line (drop n (b ∷ bs)) = subst (λ (k : ℕ). IsFirstLine (take k (b ∷ bs)) (drop k (b ∷ bs))) (sym size) (line_of (b ∷ bs)) in (
        omega arith,
        omega arith,
        NoKeyline refl refl b letter line (drop n (b ∷ bs)) is_line
            (sym (take-append-drop n (b ∷ bs)))
            (λ k lt. fails_before_first is_equals line k 0 (omega arith)) refl refl,
      )
  keyline_piece n m size ascii false e =
      let line = take n (b ∷ bs) in
      let is_line : IsFirstLine line (drop n (b ∷ bs)) = subst (λ (k : ℕ). IsFirstLine (take k (b ∷ bs)) (drop k (b ∷ bs))) (sym size) (line_of (b ∷ bs)) in
      let le = pos_le is_line_end (b ∷ bs) in
      let l = length-take n (b ∷ bs) in
      let some : 0 < position_or_len is_line_end (b ∷ bs) = pos_some is_line_end b bs (letter_no_end b letter) in
      let first : slice_index line 0 ≡ b = first_in_take n b bs (omega arith) in
      let eq_le = pos_le is_equals line in
      let within : position_or_len is_equals line < length line = less (position_or_len is_equals line) (length line) eq_le e in
      let m_le : m ≤ length line = (let x = pos_le is_not_ascii line in omega arith) in
      let m_some : 0 < m = (let x = ascii_some line first (omega arith) in omega arith) in
      let t = length-take m (b ∷ bs) in
      let long : length (take m (b ∷ bs)) ≡ m = omega arith in (
        m_some,
        omega arith,
        Keyline refl refl (record {
          line = line;
          behind = drop n (b ∷ bs);
          is_line = is_line;
          whole = take-append-drop m (b ∷ bs) ∙ sym (take-append-drop n (b ∷ bs));
          letter = ap is_letter first ∙ letter;
          equals = position_or_len is_equals line;
          in_line = within;
          is_equals = passes_at_first is_equals line 0 within;
          within = omega arith;
          ascii = λ k lt. fails_before_first is_not_ascii line k 0 (omega arith);
          stops =
              λ lt. ap (λ (k : ℕ). is_not_ascii (slice_index line k)) (long ∙ ascii)
              ∙ passes_at_first is_not_ascii line 0 (omega arith);
        }) refl,
      )
    where
      ascii_some : (line : List ℕ) → slice_index line 0 ≡ b → 0 < length line
          → 0 < position_or_len is_not_ascii line
      ascii_some [] e lt = absurd (omega arith)
      ascii_some (c ∷ cs) e lt = pos_some is_not_ascii c cs (ap is_not_ascii e ∙ o.ascii)

  line_piece : IsPiece Head true (b ∷ bs) (line_lexeme
      (take (position_or_len is_line_end (b ∷ bs)) (b ∷ bs)))
  line_piece = keyline_piece (position_or_len is_line_end (b ∷ bs)) _ refl refl _ refl

quoted_piece : (fresh : Bool) (bs : List ℕ)
    → IsPiece Head fresh (34 ∷ bs) (quoted_lexeme (quoted_from (34 ∷ bs)))
quoted_piece fresh bs = by_end (position_or_len is_quote bs == length bs) refl
  where
    by_end : (x : Bool) → (position_or_len is_quote bs == length bs) ≡ x
        → IsPiece Head fresh (34 ∷ bs) (quoted_lexeme
        (if x then None else Some (position_or_len is_quote bs + 2)))
    by_end true e =
        let same = nesting.equal (position_or_len is_quote bs) (length bs) e in (
          omega arith,
          omega arith,
          NoQuoted refl (λ k lt. fails_before_first is_quote bs k 0 (omega arith)) refl refl,
        )
    by_end false e =
        let le = pos_le is_quote bs in
        let lt = less (position_or_len is_quote bs) (length bs) le e in (
          omega arith,
          omega arith,
          Quoted refl (take (position_or_len is_quote bs) bs) (lacks_before bs)
              (string_text bs lt) refl,
        )

quote_piece : (fresh : Bool) (b : ℕ) (bs : List ℕ) → (b == 34) ≡ true
    → IsPiece Head fresh (b ∷ bs) (quoted_lexeme (quoted_from (b ∷ bs)))
quote_piece fresh b bs e =
    subst (λ (x : ℕ). IsPiece Head fresh (x ∷ bs) (quoted_lexeme (quoted_from (x ∷ bs))))
    (sym (nesting.equal b 34 e)) (quoted_piece fresh bs)

head_plain : (fresh : Bool) (b : ℕ) (bs : List ℕ) → IsOpen b bs → (fresh && is_letter b) ≡ false
    → (b == 34) ≡ false → IsPiece Head fresh (b ∷ bs) (plain_lexeme Head (b ∷ bs))
head_plain fresh b bs o letter quote =
    let plain : is_plain Head fresh b ≡ true = ap not (or_from (fresh && is_letter b) (b == 34) letter quote) in
    plain_piece Head fresh b bs (λ k. absurd cc) plain o (λ starts.
    word_piece Head fresh b bs (λ k. absurd cc) plain o starts (λ k. absurd cc))

head_piece : (fresh : Bool) (b : ℕ) (bs : List ℕ) → IsOpen b bs
    → IsPiece Head fresh (b ∷ bs) (head_lexeme fresh (b ∷ bs))
head_piece true b bs o =
    tested (IsPiece Head true (b ∷ bs)) (is_letter b) _ _ (line_piece b bs o) (λ letter.
    tested (IsPiece Head true (b ∷ bs)) (b == 34) _ _ (quote_piece true b bs)
    (head_plain true b bs o letter))
head_piece false b bs o =
    tested (IsPiece Head false (b ∷ bs)) (b == 34) _ _ (quote_piece false b bs)
    (head_plain false b bs o refl)

-- ---- any part

stage_piece : (s : Stage) (fresh : Bool) (b : ℕ) (bs : List ℕ) → IsOpen b bs
    → IsPiece s fresh (b ∷ bs) (stage_lexeme s fresh (b ∷ bs))
stage_piece Magic fresh b bs o = raw_piece Magic fresh b bs (λ k. absurd cc) refl o
stage_piece Title fresh b bs o = raw_piece Title fresh b bs (λ k. absurd cc) refl o
stage_piece TitleEnd fresh b bs o = name_end_piece fresh b bs o
stage_piece Head fresh b bs o = head_piece fresh b bs o
stage_piece (Init a w) fresh b bs o =
    plain_piece (Init a w) fresh b bs (λ k. absurd cc) refl o (λ starts.
    word_piece (Init a w) fresh b bs (λ k. absurd cc) refl o starts (λ k. absurd cc))
stage_piece (Header n) fresh b bs o =
    plain_piece (Header n) fresh b bs (λ k. absurd cc) refl o (λ starts.
    word_piece (Header n) fresh b bs (λ k. absurd cc) refl o starts (λ k. absurd cc))
stage_piece CellBegins fresh b bs o =
    plain_piece CellBegins fresh b bs (λ k. absurd cc) refl o (cell_words fresh b bs o)
stage_piece InCell fresh b bs o =
    plain_piece InCell fresh b bs (λ k. absurd cc) refl o (λ starts.
    word_piece InCell fresh b bs (λ k. absurd cc) refl o starts (λ k. absurd cc))
stage_piece Tail fresh b bs o =
    plain_piece Tail fresh b bs (λ k. absurd cc) refl o (λ starts.
    word_piece Tail fresh b bs (λ k. absurd cc) refl o starts (λ k. absurd cc))

first_piece : (s : Stage) (fresh : Bool) (b : ℕ) (bs : List ℕ)
    → IsPiece s fresh (b ∷ bs) (first_lexeme s fresh (b ∷ bs))
unfolding first_lexeme
first_piece s fresh b bs =
    tested (IsPiece s fresh (b ∷ bs)) (is_not_ascii b) _ _ (ascii_piece s fresh b bs) (λ ascii.
    tested (IsPiece s fresh (b ∷ bs)) (is_blank b) _ _ (blank_piece s fresh b bs) (λ blank.
    tested (IsPiece s fresh (b ∷ bs)) (begins_comment (b ∷ bs)) _ _
    (λ comment. comment_piece s fresh b bs comment (comment_of (b ∷ bs)) refl) (λ comment.
    stage_piece s fresh b bs (record { ascii = ascii; blank = blank; comment = comment }))))

-- ---- all pieces

record CutAt (s : Stage) (fresh : Bool) (n : ℕ) (bs : List ℕ) (ps : List TokenAt) : Type 0 where
  pieces : List TestPiece
  fine : ArePieces s fresh pieces
  whole : test_text_of pieces ≡ bs
  tokens : tokens_at n pieces ≡ ps

pub skipped : (s : Stage) (fresh : Bool) (j n : ℕ) (bs : List ℕ) → j ≤ length bs
    → tokens_from s fresh (suc j - 1) (n + 1) bs ≡ tokens_from s fresh 0 (n + suc j) (drop j bs)
skipped s fresh j n bs le =
    ap (λ (k : ℕ). tokens_from s fresh k (n + 1) bs) (let e : suc j - 1 ≡ j = omega arith in e)
    ∙ tokens_skip s fresh j (n + 1) bs le
    ∙ ap (λ (k : ℕ). tokens_from s fresh 0 k (drop j bs))
    (let e : n + 1 + j ≡ n + suc j = omega arith in e)

after_piece : (s : Stage) (fresh : Bool) (n b : ℕ) (bs : List ℕ) (f : NextLexeme)
    → IsPiece s fresh (b ∷ bs) f
    → ((s' : Stage) (fresh' : Bool) (k : ℕ) (xs : List ℕ) → length xs ≤ length bs
    → CutAt s' fresh' k xs (tokens_from s' fresh' 0 k xs))
    → CutAt s fresh n (b ∷ bs) (after_lexeme s fresh n b f
    (λ s' fresh' skip. tokens_from s' fresh' skip (n + 1) bs))
after_piece s fresh n b bs (lexemes.Layout zero) h ih = let bad = h.0 in absurd (omega arith)
after_piece s fresh n b bs (lexemes.Lexeme t zero) h ih = let bad = h.0 in absurd (omega arith)
after_piece s fresh n b bs (lexemes.Layout (suc j)) h ih =
    let le = h.1 in
    let l = length-drop j bs in
    let m = length-take (suc j) (b ∷ bs) in
    let size : n + length (take (suc j) (b ∷ bs)) ≡ n + suc j = omega arith in
    let c = ih s (fresh_after fresh b) (n + suc j) (drop j bs) (omega arith) in
    record {
      pieces = Gap (take (suc j) (b ∷ bs)) ∷ c.pieces;
      fine = (subst (IsTestGap s (take (suc j) (b ∷ bs))) (sym c.whole) h.2, c.fine);
      whole =
          ap (λ (xs : List ℕ). take (suc j) (b ∷ bs) ++ xs) c.whole
          ∙ take-append-drop (suc j) (b ∷ bs);
      tokens =
          ap (λ (k : ℕ). tokens_at k c.pieces) size ∙ c.tokens
          ∙ sym (skipped s (fresh_after fresh b) j n bs (omega arith));
    }
after_piece s fresh n b bs (lexemes.Lexeme t (suc j)) h ih =
    let le = h.1 in
    let l = length-drop j bs in
    let m = length-take (suc j) (b ∷ bs) in
    let size : n + length (take (suc j) (b ∷ bs)) ≡ n + suc j = omega arith in
    let c = ih (next_stage s t) (ends_line t) (n + suc j) (drop j bs) (omega arith) in
    record {
      pieces = Lexeme t (take (suc j) (b ∷ bs)) ∷ c.pieces;
      fine = (subst (IsTestLexeme s fresh t (take (suc j) (b ∷ bs))) (sym c.whole) h.2, c.fine);
      whole =
          ap (λ (xs : List ℕ). take (suc j) (b ∷ bs) ++ xs) c.whole
          ∙ take-append-drop (suc j) (b ∷ bs);
      tokens =
          ap (λ (ps : List TokenAt). record { token = t; offset = n } ∷ ps) (ap
          (λ (k : ℕ). tokens_at k c.pieces) size ∙ c.tokens
          ∙ sym (skipped (next_stage s t) (ends_line t) j n bs (omega arith)));
    }

cut_at : (most : ℕ) (s : Stage) (fresh : Bool) (n : ℕ) (bs : List ℕ) → length bs ≤ most
    → CutAt s fresh n bs (tokens_from s fresh 0 n bs)
unfolding tokens_from
cut_at most s fresh n [] le = record { pieces = []; fine = tt; whole = refl; tokens = refl }
cut_at zero s fresh n (b ∷ bs) le = absurd (omega arith)
cut_at (suc most) s fresh n (b ∷ bs) le =
    after_piece s fresh n b bs (first_lexeme s fresh (b ∷ bs)) (first_piece s fresh b bs)
    (λ s' fresh' k xs short. cut_at most s' fresh' k xs (omega arith))

pub is_cut : (s : Stage) (bytes : List ℕ) → IsTestCut s bytes (test_lexing s bytes)
is_cut s bytes =
    let c = cut_at (length bytes) s false 0 bytes (omega arith) in
    record { pieces = c.pieces; fine = c.fine; whole = c.whole; tokens = c.tokens }

-- ---- rising

byte_of : (b : ℕ) (s : List ℕ) → s ≡ b ∷ [] → 0 < length s
byte_of b s e =
    let l = ap length e in
    omega arith

letter_ascii : (b : ℕ) → is_letter b ≡ true → is_not_ascii b ≡ false
letter_ascii b h = grind (arith, nat_tests)

keyline_bytes : (s rest : List ℕ) → IsKeyline s rest → 0 < length s
keyline_bytes [] rest k =
    let lt = k.in_line in
    let stops = k.stops (omega arith) in
    absurd (opposite (is_not_ascii (slice_index k.line 0)) stops
    (letter_ascii (slice_index k.line 0) k.letter))
keyline_bytes (b ∷ bs) rest k = omega arith

word_bytes : (s rest : List ℕ) → IsWordLexeme s rest → 0 < length s
word_bytes [] rest w = let bad : false ≡ true = w.first in absurd cc
word_bytes (b ∷ bs) rest w = omega arith

comment_bytes : (s : List ℕ) → begins_comment s ≡ true → 0 < length s
comment_bytes [] e = absurd cc
comment_bytes (b ∷ bs) e = omega arith

label_bytes : (word s rest : List ℕ) → IsLabelLexeme word s rest → 0 < length s
label_bytes word s rest x =
    let l = ap length x.whole in
    let m = length-append word (gaps_text x.gaps ++ 58 ∷ []) in
    let n = length-append (gaps_text x.gaps) (58 ∷ []) in
    omega arith

pub lexeme_bytes : (stage : Stage) (fresh : Bool) (t : Token) (s rest : List ℕ)
    → IsTestLexeme stage fresh t s rest → 0 < length s
lexeme_bytes stage fresh t s rest (FirstWord a raw e) = raw.some
lexeme_bytes stage fresh t s rest (NameEnd a b c is e) = byte_of b s is
lexeme_bytes stage fresh t s rest (Keyline a c k e) = keyline_bytes s rest k
lexeme_bytes stage fresh t s rest (Quoted a inside lacks is e) =
    let l = ap length is in
    omega arith
lexeme_bytes stage fresh t s rest (Word a w none e) = word_bytes s rest w
lexeme_bytes stage fresh t s rest (Label a word x e) = label_bytes word s rest x
lexeme_bytes stage fresh t s rest (Number a some r e) = some
lexeme_bytes stage fresh t s rest (Negative a ds some r is e) =
    let l = ap length is in
    omega arith
lexeme_bytes stage fresh t s rest (Double a b m plain c is e) =
    let l = ap length is in
    omega arith
lexeme_bytes stage fresh t s rest (Single b m plain gap double c is e) = byte_of b s is
lexeme_bytes stage fresh t s rest (NotAscii b a is e) = byte_of b s is
lexeme_bytes stage fresh t s rest (OpenComment a none end e) = comment_bytes s a
lexeme_bytes stage fresh t s rest (NoNameEnd a b c d gap is e) = byte_of b s is
lexeme_bytes stage fresh t s rest (NoKeyline a c b d line behind l whole lacks is e) =
    byte_of b s is
lexeme_bytes stage fresh t s rest (NoQuoted a lacks is e) = byte_of 34 s is
lexeme_bytes stage fresh t s rest (NoToken b plain ascii gap line word minus double c is e) =
    byte_of b s is

rise : (stage : Stage) (fresh : Bool) (m n : ℕ) (ps : List TestPiece) → m ≤ n → ArePieces stage fresh ps
    → AreTestRising m (tokens_at n ps)
rise stage fresh m n [] le h = (le, tt)
rise stage fresh m n (Gap s ∷ ps) le h =
    rise stage (fresh_after fresh (slice_index s 0)) m (n + length s) ps (omega arith) h.1
rise stage fresh m n (Lexeme t s ∷ ps) le h =
    let some = lexeme_bytes stage fresh t s (test_text_of ps) h.0 in
    (le, rise (next_stage stage t) (ends_line t) (n + 1) (n + length s) ps (omega arith) h.1)

pub is_rising : (s : Stage) (bytes : List ℕ) → AreTestRising 0 (test_lexing s bytes)
is_rising s bytes =
    let c = is_cut s bytes in
    subst (AreTestRising 0) c.tokens (rise s false 0 0 c.pieces (omega arith) c.fine)
