-- What stands before the init block, as it is read.
use Rattle.std.proofs.Common.{◌≡◌, ℕ, ◌+◌, Bool, true, false, List, [], ◌∷◌, ◌++◌, length, take, refl, ap, ◌∙◌, arith}
use Rattle.std.specs.Prelude.{if◌then◌else◌, ◌||◌, ◌&&◌, ◌==◌, slice_index, codes, nat_le, not}
use Rattle.std.proofs.lemmas.Bool.{and_parts, or_parts, or_from, not-true}
use Rattle.std.proofs.lemmas.Bool.Decides.{nat_tests}
use Rattle.std.proofs.lemmas.List.{length-append, take_at, drop_at}
use Rattle.text_values.specs.Layout.{is_blank, is_line_end, comment_of}
use Rattle.litmus_tokens.specs.declared.stage.Stage.{Stage}
use Rattle.litmus_tokens.specs.declared.stage.Stage.TheVariants.{Magic, Title, TitleEnd, Init}
use Rattle.litmus_tokens.specs.declared.token.Token.{Token}
use Rattle.litmus_tokens.specs.declared.token.Token.TheVariants as tokens
use Rattle.litmus_tokens.specs.declared.token.Mark.TheVariants as marks
use Rattle.litmus_tokens.specs.declared.lexer.NextLexeme.{NextLexeme}
use Rattle.litmus_tokens.specs.declared.lexer.NextLexeme.TheVariants.{Layout, Lexeme}
use Rattle.litmus_tokens.specs.Words.{is_printable, are_printable, is_test_name, is_empty}
use Rattle.litmus_tokens.specs.Lexer.{is_space, is_not_ascii, begins_comment, comment_lexeme, ends_raw, raw_from, raw_lexeme, first_lexeme}
use Rattle.litmus_tokens.specs.Stage.{next_stage}
use Rattle.litmus_tokens.specs.Texts.{TokenAt, test_tokens_of, ends_line, after_lexeme, tokens_from}
use Rattle.litmus_laws.specs.Written.{holds_comment}
use Rattle.litmus_grammar.proofs.Lexed.{tokens_skip}
use Rattle.litmus_laws.proofs.Read.{three_tests, Entries, free, inner}

printable : (b : ℕ) → is_printable b ≡ true → (is_space b ≡ false) × (is_not_ascii b ≡ false)
printable b h = (grind (arith, nat_tests), grind (arith, nat_tests))

-- a name's line goes on with no comment
no_star : (b : ℕ) (bs rest : List ℕ) → begins_comment (b ∷ bs) ≡ false
    → (b == 40 && slice_index (bs ++ 10 ∷ rest) 0 == 42) ≡ false
no_star b [] rest h = and_false (b == 40)
  where
    and_false : (x : Bool) → (x && false) ≡ false
    and_false true = refl
    and_false false = refl
no_star b (c ∷ cs) rest h = h

goes_on : (b : ℕ) (bs rest : List ℕ) → is_printable b ≡ true → begins_comment (b ∷ bs) ≡ false
    → ends_raw b (slice_index (bs ++ 10 ∷ rest) 0) ≡ false
goes_on b bs rest p c =
    or_from (is_space b || is_not_ascii b) (b == 40 && slice_index (bs ++ 10 ∷ rest) 0 == 42)
    (or_from (is_space b) (is_not_ascii b) (printable b p).0 (printable b p).1)
    (no_star b bs rest c)

raw_len : (m : ℕ) (n rest : List ℕ) → are_printable n ≡ true → holds_comment n ≡ false
    → raw_from m (n ++ 10 ∷ rest) ≡ m + length n
unfolding raw_from
raw_len m [] rest p c = omega arith
raw_len m (b ∷ bs) rest p c =
    let both = and_parts (is_printable b) (are_printable bs) p in
    let none = or_parts (begins_comment (b ∷ bs)) (holds_comment bs) c in
    let sum : m + 1 + length bs ≡ m + length (b ∷ bs) = omega arith in
    ap (λ (t : Bool). if t then m else raw_from (m + 1) (bs ++ 10 ∷ rest))
    (goes_on b bs rest both.0 none.0)
    ∙ raw_len (m + 1) bs rest both.1 none.1 ∙ sum

name_here : (c : ℕ) (cs rest : List ℕ) → are_printable (c ∷ cs) ≡ true
    → holds_comment (c ∷ cs) ≡ false
    → first_lexeme Title false (c ∷ (cs ++ 10 ∷ rest)) ≡ Lexeme (tokens.Word (c ∷ cs)) (length (c ∷ cs))
unfolding first_lexeme
name_here c cs rest p h =
    let whole = (c ∷ cs) ++ 10 ∷ rest in
    let one = printable c (and_parts (is_printable c) (are_printable cs) p).0 in
    let blank = or_parts (is_blank c) (is_line_end c) one.0 in
    let none = or_parts (begins_comment (c ∷ cs)) (holds_comment cs) h in
    let from_none : 0 + length (c ∷ cs) ≡ length (c ∷ cs) = omega arith in
    three_tests (is_not_ascii c) (is_blank c) (begins_comment whole) (Lexeme (tokens.Broken _) 1)
    (Layout 1) (comment_lexeme (length whole) (comment_of whole))
    (raw_lexeme whole (raw_from 0 whole))
    one.1 blank.0 (no_star c cs rest none.0)
    ∙ ap (raw_lexeme whole) (raw_len 0 (c ∷ cs) rest p h ∙ from_none)
    ∙ ap
    (λ (t : Bool). if t then Layout 1
    else Lexeme (tokens.Word (take (length (c ∷ cs)) whole)) (length (c ∷ cs))) blank.1
    ∙ ap (λ (x : List ℕ). Lexeme (tokens.Word x) (length (c ∷ cs)))
    (take_at (c ∷ cs) (10 ∷ rest) (length (c ∷ cs)) refl)

-- a token, wherever it stands
turn : (s : Stage) (f : Bool) (p b : ℕ) (word rest : List ℕ) (t : Token)
    → first_lexeme s f (b ∷ (word ++ rest)) ≡ Lexeme t (length (b ∷ word))
    → test_tokens_of (tokens_from s f 0 p (b ∷ (word ++ rest)))
    ≡ t ∷ test_tokens_of (tokens_from (next_stage s t) (ends_line t) 0 (p + 1 + length word) rest)
unfolding tokens_from
turn s f p b word rest t e =
    let l = length-append word rest in
    ap
    (λ (x : NextLexeme).
    test_tokens_of (after_lexeme s f p b x (λ u g k. tokens_from u g k (p + 1) (word ++ rest)))) e
    ∙ ap (λ (k : ℕ). t ∷ test_tokens_of (tokens_from (next_stage s t) (ends_line t) k (p + 1) (word ++ rest)))
    (omega arith)
    ∙ ap (λ (ps : List TokenAt). t ∷ test_tokens_of ps) (tokens_skip (next_stage s t) (ends_line t)
    (length word) (p + 1) (word ++ rest) (omega arith))
    ∙ ap
    (λ (x : List ℕ). t
    ∷ test_tokens_of (tokens_from (next_stage s t) (ends_line t) 0 (p + 1 + length word) x))
    (drop_at word rest (length word) refl)

magic : (bs : List ℕ)
    → test_tokens_of (tokens_from Magic false 0 0 (codes "PPC " ++ bs))
    ≡ tokens.Word (codes "PPC") ∷ test_tokens_of (tokens_from Title false 0 4 bs)
unfolding tokens_from first_lexeme raw_from
magic bs = refl

block_begins : (p : ℕ) (bs : List ℕ)
    → test_tokens_of (tokens_from TitleEnd false 0 p (10 ∷ 123 ∷ 10 ∷ bs))
    ≡ tokens.LineEnd ∷ tokens.Mark marks.OpenBrace ∷ inner Entries bs
unfolding tokens_from first_lexeme
block_begins p bs =
    ap (λ (ts : List Token). tokens.LineEnd ∷ tokens.Mark marks.OpenBrace ∷ ts)
    (free (Init false false) _ 0 _ bs refl)

name_back : (p : ℕ) (n rest : List ℕ) → is_empty n ≡ false → are_printable n ≡ true
    → holds_comment n ≡ false
    → test_tokens_of (tokens_from Title false 0 p (n ++ 10 ∷ 123 ∷ 10 ∷ rest))
    ≡ tokens.Word n ∷ tokens.LineEnd ∷ tokens.Mark marks.OpenBrace ∷ inner Entries rest
name_back p [] rest e h c = absurd cc
name_back p (b ∷ bs) rest e h c =
    turn Title false p b bs (10 ∷ 123 ∷ 10 ∷ rest) (tokens.Word (b ∷ bs))
    (name_here b bs (123 ∷ 10 ∷ rest) h c)
    ∙ ap (λ (ts : List Token). tokens.Word (b ∷ bs) ∷ ts) (block_begins (p + 1 + length bs) rest)

pub head_back : (n rest : List ℕ) → is_test_name n ≡ true → holds_comment n ≡ false
    → test_tokens_of (tokens_from Magic false 0 0 (codes "PPC " ++ (n ++ 10 ∷ 123 ∷ 10 ∷ rest)))
    ≡ tokens.Word (codes "PPC") ∷ tokens.Word n ∷ tokens.LineEnd ∷ tokens.Mark marks.OpenBrace
    ∷ inner Entries rest
head_back n rest h c =
    let some = (and_parts (not (is_empty n) && nat_le (length n) 255) (are_printable n) h).0 in
    let filled = (and_parts (not (is_empty n)) (nat_le (length n) 255) some).0 in
    magic (n ++ 10 ∷ 123 ∷ 10 ∷ rest)
    ∙ ap (λ (ts : List Token). tokens.Word (codes "PPC") ∷ ts) (name_back 4 n rest
    (not-true (is_empty n) filled)
    (and_parts (not (is_empty n) && nat_le (length n) 255) (are_printable n) h).1 c)
