-- A text is cut in one way: what a piece is decides what the reader takes.
use Rattle.std.proofs.Common.{◌≡◌, ℕ, suc, ◌+◌, ◌<◌, ◌≤◌, ◌⊎◌, inl, inr, Bool, true, false, List, [], ◌∷◌, ◌++◌, length, drop, refl, sym, ap, ◌∙◌, subst, arith, append_assoc}
use Rattle.std.specs.Prelude.{Option, Some, None, slice_index, ◌==◌, ◌&&◌, ◌||◌, not}
use Rattle.std.specs.List.{position_or_len}
use Rattle.std.proofs.lemmas.Bool.{cases_lt, false_from_ne_true}
use Rattle.std.proofs.lemmas.List.{append-nil, length-append, get_or_append_left, take_at, drop_at}
use Rattle.std.proofs.lemmas.List.Sums.{position_or_len_is}
use Rattle.text_values.specs.Letters.{is_letter}
use Rattle.text_values.specs.Layout.{is_line_end, is_quote, quoted_from, comment_of}
use Rattle.text_laws.specs.Comments.{LacksQuote, begins_comment, BeginsWithComment}
use Rattle.text_laws.proofs.Nesting as nesting
use Rattle.text_laws.proofs.Runs.{equals, or_first, or_second, seam, when_true, when_false, quote_size, open_size}
use Rattle.cat_tokens.specs.declared.rule.CatRule.TheVariants as rules
use Rattle.cat_tokens.specs.declared.token.Mark.TheVariants.{Inverse}
use Rattle.cat_tokens.specs.declared.token.Token.{Token}
use Rattle.cat_tokens.specs.declared.token.Token.TheVariants as tokens
use Rattle.cat_tokens.specs.declared.lexer.NextLexeme.{NextLexeme}
use Rattle.cat_tokens.specs.declared.lexer.NextLexeme.TheVariants as lexemes
use Rattle.cat_tokens.specs.Tokens.{TokenAt}
use Rattle.cat_tokens.specs.Words.{word_token}
use Rattle.cat_tokens.specs.Lexer.{is_layout, is_name_byte, ends_name, comment_lexeme, quoted_lexeme, word_lexeme, sign_token, sign_lexeme, first_model_lexeme, after_lexeme, tokens_from, model_lexing}
use Rattle.cat_laws.specs.Tokens.{IsWord, is_sign, Spells, Word, String, Sign, Inversion, Plusses, begins_line_comment, begins_gap, IsModelGap, Blank, Comment, Line, IsLongest, SpellsNone, IsModelLexeme, Spelled, NoToken, OpenComment, OpenString, ModelPiece, Gap, Lexeme, model_text_of, ArePieces, tokens_at, IsModelCut}
use Rattle.cat_laws.proofs.Named.{letter_in_name}
use Rattle.cat_laws.proofs.Printed.{first_quote}
use Rattle.cat_laws.proofs.Cuts.{three_bytes, not_sign, skipped, lexeme_bytes}

-- ---- the reader's first lexeme, by its tests

first_word : (b : ℕ) (bs : List ℕ) → is_layout b ≡ false → is_letter b ≡ true
    → first_model_lexeme (b ∷ bs) ≡ word_lexeme (b ∷ bs) (position_or_len ends_name (b ∷ bs))
unfolding first_model_lexeme
first_word b bs layout letter =
    when_false (is_layout b) _ _ layout ∙ when_true (is_letter b) _ _ letter

first_sign : (b : ℕ) (bs : List ℕ) → begins_gap (b ∷ bs) ≡ false → is_letter b ≡ false
    → (b == 34) ≡ false → first_model_lexeme (b ∷ bs) ≡ sign_lexeme (b ∷ bs)
unfolding first_model_lexeme
first_sign b bs gap letter quote =
    let others = or_second (is_layout b) (begins_comment (b ∷ bs) || begins_line_comment (b ∷ bs)) gap in
    when_false (is_layout b) _ _ (or_first (is_layout b)
    (begins_comment (b ∷ bs) || begins_line_comment (b ∷ bs)) gap)
    ∙ when_false (is_letter b) _ _ letter
    ∙ when_false (b == 47 && slice_index bs 0 == 47) _ _ (or_second (begins_comment (b ∷ bs))
    (begins_line_comment (b ∷ bs)) others)
    ∙ when_false (b == 40 && slice_index bs 0 == 42) _ _ (or_first (begins_comment (b ∷ bs))
    (begins_line_comment (b ∷ bs)) others) ∙ when_false (b == 34) _ _ quote

one_byte : (b : ℕ) (bs : List ℕ) → (b == 43 && slice_index bs 0 == 43) ≡ false
    → (b == 94 && slice_index bs 0 == 45 && slice_index bs 1 == 49) ≡ false
    → sign_lexeme (b ∷ bs) ≡ lexemes.Lexeme (sign_token b) 1
one_byte b bs plus inverse =
    when_false (b == 43 && slice_index bs 0 == 43) _ _ plus
    ∙ when_false (b == 94 && slice_index bs 0 == 45 && slice_index bs 1 == 49) _ _ inverse

first_blank : (b : ℕ) (bs : List ℕ) → is_layout b ≡ true → first_model_lexeme (b ∷ bs) ≡ lexemes.Layout 1
unfolding first_model_lexeme
first_blank b bs layout = when_true (is_layout b) _ _ layout

first_comment : (xs : List ℕ)
    → first_model_lexeme (40 ∷ 42 ∷ xs) ≡ comment_lexeme (length (40 ∷ 42 ∷ xs)) (comment_of (40 ∷ 42 ∷ xs))
unfolding first_model_lexeme
first_comment xs = refl

first_line : (xs : List ℕ)
    → first_model_lexeme (47 ∷ 47 ∷ xs) ≡ lexemes.Layout (position_or_len is_line_end (47 ∷ 47 ∷ xs))
unfolding first_model_lexeme
first_line xs = refl

first_string : (xs : List ℕ) → first_model_lexeme (34 ∷ xs) ≡ quoted_lexeme (34 ∷ xs) (quoted_from (34 ∷ xs))
unfolding first_model_lexeme
first_string xs = refl

first_inversion : (xs : List ℕ) → first_model_lexeme (94 ∷ 45 ∷ 49 ∷ xs) ≡ lexemes.Lexeme (tokens.Mark Inverse) 3
unfolding first_model_lexeme
first_inversion xs = refl

first_plusses : (xs : List ℕ)
    → first_model_lexeme (43 ∷ 43 ∷ xs) ≡ lexemes.Lexeme (tokens.Broken rules.Unsupported) 2
unfolding first_model_lexeme
first_plusses xs = refl

-- ---- gaps

line_length_is : (s rest : List ℕ)
    → ((k : ℕ) → k < length s → is_line_end (slice_index s k) ≡ false)
    → (0 < length rest → is_line_end (slice_index rest 0) ≡ true)
    → position_or_len is_line_end (s ++ rest) ≡ length s
line_length_is s rest each ends =
    let l = length-append s rest in
    position_or_len_is is_line_end (s ++ rest) (length s) 0 (omega arith)
    (λ k lt. ap is_line_end (get_or_append_left s rest 0 k lt) ∙ each k lt)
    (λ lt. ap is_line_end (seam s rest) ∙ ends (omega arith))

first_gap : (s rest : List ℕ) → IsModelGap s rest → first_model_lexeme (s ++ rest) ≡ lexemes.Layout (length s)
first_gap s rest (Blank b layout is) =
    ap (λ (xs : List ℕ). first_model_lexeme (xs ++ rest)) is ∙ first_blank b rest layout
    ∙ ap (λ (xs : List ℕ). lexemes.Layout (length xs)) (sym is)
first_gap s rest (Comment c) =
    ap first_model_lexeme c.whole ∙ first_comment _
    ∙ ap (λ (xs : List ℕ). comment_lexeme (length xs) (comment_of xs)) (sym c.whole)
    ∙ ap (comment_lexeme (length (s ++ rest))) (nesting.only (s ++ rest) (length s) c)
first_gap [] rest (Line begins each ends) = absurd cc
first_gap (b ∷ bs) rest (Line begins each ends) =
    let two = nesting.two_bytes 47 46 b bs begins in
    let are : b ∷ (bs ++ rest) ≡ 47 ∷ 47 ∷ (drop 1 bs ++ rest) = ap (λ (x : ℕ). x ∷ (bs ++ rest)) two.0 ∙ ap (λ (xs : List ℕ). 47 ∷ (xs ++ rest)) two.1 in
    ap first_model_lexeme are ∙ first_line (drop 1 bs ++ rest)
    ∙ ap (λ (xs : List ℕ). lexemes.Layout (position_or_len is_line_end xs)) (sym are)
    ∙ ap (λ (n : ℕ). lexemes.Layout n) (line_length_is (b ∷ bs) rest each ends)

gap_bytes : (s rest : List ℕ) → IsModelGap s rest → 0 < length s
gap_bytes s rest (Blank b layout is) =
    let l = ap length is in
    omega arith
gap_bytes s rest (Comment c) = nesting.some_bytes (s ++ rest) (length s) c
gap_bytes [] rest (Line begins each ends) = absurd cc
gap_bytes (b ∷ bs) rest (Line begins each ends) = omega arith

-- ---- words

longer_word : (s : List ℕ) (c : ℕ) → IsWord s → is_name_byte c ≡ true → IsWord (s ++ c ∷ [])
longer_word [] c w name = let bad : false ≡ true = w.first in absurd cc
longer_word (b ∷ bs) c w name =
    record { first = w.first; each = λ k lt. by_size k lt (cases_lt k (length (b ∷ bs))) }
  where
    by_size : (k : ℕ) → k < length ((b ∷ bs) ++ c ∷ [])
        → (k < length (b ∷ bs)) ⊎ (length (b ∷ bs) ≤ k)
        → is_name_byte (slice_index ((b ∷ bs) ++ c ∷ []) k) ≡ true
    by_size k lt (inl less) =
        ap is_name_byte (get_or_append_left (b ∷ bs) (c ∷ []) 0 k less) ∙ w.each k less
    by_size k lt (inr le) =
        let l = length-append bs (c ∷ []) in
        let same : length (b ∷ bs) ≡ k = omega arith in
        subst (λ (j : ℕ). is_name_byte (slice_index ((b ∷ bs) ++ c ∷ []) j) ≡ true) same
        (ap is_name_byte (seam (b ∷ bs) (c ∷ [])) ∙ name)

word_ends : (s rest : List ℕ) → IsWord s → IsLongest s rest → 0 < length rest
    → ends_name (slice_index rest 0) ≡ true
word_ends s [] w longest lt = absurd (omega arith)
word_ends s (c ∷ cs) w longest lt =
    ap not (false_from_ne_true (is_name_byte c) (λ name.
    (let l = length-append s (c ∷ []) in
    let le = longest (s ++ c ∷ []) cs (word_token (s ++ c ∷ [])) (append_assoc s (c ∷ []) cs) (Word (longer_word s c w name) refl) in
    absurd (omega arith))))

name_size : (s rest : List ℕ) → IsWord s → (0 < length rest → ends_name (slice_index rest 0) ≡ true)
    → position_or_len ends_name (s ++ rest) ≡ length s
name_size s rest w ends =
    let l = length-append s rest in
    position_or_len_is ends_name (s ++ rest) (length s) 0 (omega arith)
    (λ k lt. ap ends_name (get_or_append_left s rest 0 k lt) ∙ ap not (w.each k lt))
    (λ lt. ap ends_name (seam s rest) ∙ ends (omega arith))

first_of_word : (s rest : List ℕ) → IsWord s → begins_gap (s ++ rest) ≡ false → IsLongest s rest
    → first_model_lexeme (s ++ rest) ≡ lexemes.Lexeme (word_token s) (length s)
first_of_word [] rest w gap longest = let bad : false ≡ true = w.first in absurd cc
first_of_word (b ∷ bs) rest w gap longest =
    first_word b (bs ++ rest)
    (or_first (is_layout b)
    (begins_comment (b ∷ (bs ++ rest)) || begins_line_comment (b ∷ (bs ++ rest))) gap)
    w.first
    ∙ ap (word_lexeme (b ∷ (bs ++ rest))) (name_size (b ∷ bs) rest w
    (word_ends (b ∷ bs) rest w longest))
    ∙ ap (λ (xs : List ℕ). lexemes.Lexeme (word_token xs) (length (b ∷ bs)))
    (take_at (b ∷ bs) rest (length (b ∷ bs)) refl)

-- ---- strings

first_of_string : (inside s rest : List ℕ) → LacksQuote inside → s ≡ 34 ∷ (inside ++ 34 ∷ [])
    → first_model_lexeme (s ++ rest) ≡ lexemes.Lexeme (tokens.Quoted inside) (length s)
first_of_string inside s rest lacks is =
    let l = length-append inside (34 ∷ []) in
    let m = ap length is in
    let size : length inside + 2 ≡ length s = omega arith in
    ap (λ (xs : List ℕ). first_model_lexeme (xs ++ rest)) is
    ∙ ap (λ (xs : List ℕ). first_model_lexeme (34 ∷ xs)) (append_assoc inside (34 ∷ []) rest)
    ∙ first_quote inside rest (quote_size inside rest lacks)
    ∙ ap (lexemes.Lexeme (tokens.Quoted inside)) size

first_of_open : (inside : List ℕ) → LacksQuote inside
    → first_model_lexeme (34 ∷ inside) ≡ lexemes.Lexeme (tokens.Broken rules.Syntax) (length (34 ∷ inside))
first_of_open inside lacks =
    first_string inside
    ∙ ap (quoted_lexeme (34 ∷ inside)) (when_true
    (position_or_len is_quote inside == length inside) None
    (Some (position_or_len is_quote inside + 2)) (equals _ _ (open_size inside lacks)))

-- ---- signs

link : (P : ℕ → Type 0) (b c : ℕ) (r : Bool) → P c → (r ≡ true → P b) → ((b == c) || r) ≡ true → P b
link P b c r p more h = by_test (b == c) refl h
  where
    by_test : (x : Bool) → (b == c) ≡ x → (x || r) ≡ true → P b
    by_test true e k = subst P (sym (nesting.equal b c e)) p
    by_test false e k = more k

-- what the tests before say of a sign
abbrev IsPlainByte : ℕ → Type 0
IsPlainByte b = (is_letter b ≡ false) × ((b == 34) ≡ false) × ((b == 94) ≡ false)

sign_plain : (b : ℕ) → is_sign b ≡ true → IsPlainByte b
sign_plain b =
    link IsPlainByte b 124 _ (refl, refl, refl) (link IsPlainByte b 59 _ (refl, refl, refl) (link
    IsPlainByte b 92 _ (refl, refl, refl) (link IsPlainByte b 38 _ (refl, refl, refl) (
    link IsPlainByte b 43 _ (refl, refl, refl) (link IsPlainByte b 63 _ (refl, refl, refl) (link
    IsPlainByte b 42 _ (refl, refl, refl) (link IsPlainByte b 126 _ (refl, refl, refl) (
    link IsPlainByte b 40 _ (refl, refl, refl) (link IsPlainByte b 41 _ (refl, refl, refl) (link
    IsPlainByte b 91 _ (refl, refl, refl) (link IsPlainByte b 93 _ (refl, refl, refl) (
    link IsPlainByte b 123 _ (refl, refl, refl) (link IsPlainByte b 125 _ (refl, refl, refl) (link
    IsPlainByte b 95 _ (refl, refl, refl) (link IsPlainByte b 48 _ (refl, refl, refl) (
    link IsPlainByte b 44 _ (refl, refl, refl) (λ h.
    subst IsPlainByte (sym (nesting.equal b 61 h)) (refl, refl, refl))))))))))))))))))

plusses_begin : (b : ℕ) (bs : List ℕ) → (b == 43 && slice_index bs 0 == 43) ≡ true
    → (43 ∷ 43 ∷ []) ++ drop 1 bs ≡ b ∷ bs
plusses_begin b bs h =
    let two = nesting.two_bytes 43 42 b bs h in
    sym (ap (λ (x : ℕ). x ∷ bs) two.0 ∙ ap (λ (xs : List ℕ). 43 ∷ xs) two.1)

first_of_sign : (b : ℕ) (rest : List ℕ) → is_sign b ≡ true → begins_gap (b ∷ rest) ≡ false
    → IsLongest (b ∷ []) rest → first_model_lexeme (b ∷ rest) ≡ lexemes.Lexeme (sign_token b) 1
first_of_sign b rest sign gap longest =
    let plain = sign_plain b sign in
    let plus : (b == 43 && slice_index rest 0 == 43) ≡ false = false_from_ne_true (b == 43 && slice_index rest 0 == 43) (λ h.
    (
    let le =
    longest (43 ∷ 43 ∷ []) (drop 1 rest) (tokens.Broken rules.Unsupported)
    (plusses_begin b rest h) (Plusses refl refl) in
    absurd (omega arith))) in
    first_sign b rest gap plain.0 plain.1
    ∙ one_byte b rest plus (ap
    (λ (x : Bool). x && slice_index rest 0 == 45 && slice_index rest 1 == 49) plain.2)

first_of_none : (b : ℕ) (rest : List ℕ) → (b == 34) ≡ false → begins_gap (b ∷ rest) ≡ false
    → SpellsNone (b ∷ rest) → first_model_lexeme (b ∷ rest) ≡ lexemes.Lexeme (tokens.Broken rules.Token) 1
first_of_none b rest quote gap none =
    let letter : is_letter b ≡ false = false_from_ne_true (is_letter b) (λ h. none (b ∷ []) rest (word_token (b ∷ [])) refl (Word (one_letter h) refl)) in
    let plus : (b == 43 && slice_index rest 0 == 43) ≡ false = false_from_ne_true (b == 43 && slice_index rest 0 == 43) (λ h. none (43 ∷ 43 ∷ []) (drop 1 rest) (tokens.Broken rules.Unsupported) (plusses_begin b rest h) (Plusses refl refl)) in
    let inverse : (b == 94 && slice_index rest 0 == 45 && slice_index rest 1 == 49) ≡ false = false_from_ne_true (b == 94 && slice_index rest 0 == 45 && slice_index rest 1 == 49) (λ h.
    none (94 ∷ 45 ∷ 49 ∷ []) (drop 1 (drop 1 rest)) (tokens.Mark Inverse)
    (sym (three_bytes b rest h)) (Inversion refl refl)) in
    let sign : is_sign b ≡ false = false_from_ne_true (is_sign b) (λ h. none (b ∷ []) rest (sign_token b) refl (Sign b h refl refl)) in
    first_sign b rest gap letter quote ∙ one_byte b rest plus inverse
    ∙ ap (λ (t : Token). lexemes.Lexeme t 1) (not_sign b sign)
  where
    one_letter : is_letter b ≡ true → IsWord (b ∷ [])
    one_letter h =
        record {
          first = h;
          each =
              λ k lt. subst (λ (j : ℕ). is_name_byte (slice_index (b ∷ []) j) ≡ true)
              (let same : 0 ≡ k = omega arith in same) (letter_in_name b h);
        }

-- ---- lexemes

sized : (t : Token) (b : ℕ) (s : List ℕ) (f : NextLexeme) → s ≡ b ∷ [] → f ≡ lexemes.Lexeme t 1
    → f ≡ lexemes.Lexeme t (length s)
sized t b s f is e = e ∙ ap (λ (xs : List ℕ). lexemes.Lexeme t (length xs)) (sym is)

spelled_lexeme : (t : Token) (s rest : List ℕ) → begins_gap (s ++ rest) ≡ false → IsLongest s rest
    → Spells s t → first_model_lexeme (s ++ rest) ≡ lexemes.Lexeme t (length s)
spelled_lexeme t s rest gap longest (Word w k) =
    first_of_word s rest w gap longest ∙ ap (λ (u : Token). lexemes.Lexeme u (length s)) (sym k)
spelled_lexeme t s rest gap longest (String inside lacks is k) =
    first_of_string inside s rest lacks is ∙ ap (λ (u : Token). lexemes.Lexeme u (length s)) (sym k)
spelled_lexeme t s rest gap longest (Sign b sign is k) =
    sized t b s (first_model_lexeme (s ++ rest)) is (ap (λ (xs : List ℕ). first_model_lexeme (xs ++ rest)) is
    ∙ first_of_sign b rest sign (ap (λ (xs : List ℕ). begins_gap (xs ++ rest)) (sym is) ∙ gap)
    (subst (λ (xs : List ℕ). IsLongest xs rest) is longest)
    ∙ ap (λ (u : Token). lexemes.Lexeme u 1) (sym k))
spelled_lexeme t s rest gap longest (Inversion is k) =
    ap (λ (xs : List ℕ). first_model_lexeme (xs ++ rest)) is ∙ first_inversion rest
    ∙ ap (λ (u : Token). lexemes.Lexeme u 3) (sym k)
    ∙ ap (λ (xs : List ℕ). lexemes.Lexeme t (length xs)) (sym is)
spelled_lexeme t s rest gap longest (Plusses is k) =
    ap (λ (xs : List ℕ). first_model_lexeme (xs ++ rest)) is ∙ first_plusses rest
    ∙ ap (λ (u : Token). lexemes.Lexeme u 2) (sym k)
    ∙ ap (λ (xs : List ℕ). lexemes.Lexeme t (length xs)) (sym is)

no_end : (s : List ℕ) → begins_comment s ≡ true → ((n : ℕ) → BeginsWithComment s n → ⊥)
    → (o : Option ℕ) → comment_of s ≡ o → comment_of s ≡ None
no_end s begins none None e = e
no_end s begins none (Some n) e = absurd (none n (nesting.found s n begins e))

open_comment_lexeme : (s : List ℕ) → begins_comment s ≡ true → ((n : ℕ) → BeginsWithComment s n → ⊥)
    → first_model_lexeme s ≡ lexemes.Lexeme (tokens.Broken rules.Syntax) (length s)
open_comment_lexeme [] begins none = absurd cc
open_comment_lexeme (b ∷ bs) begins none =
    let two = nesting.two_bytes 40 41 b bs begins in
    let are : b ∷ bs ≡ 40 ∷ 42 ∷ drop 1 bs = ap (λ (x : ℕ). x ∷ bs) two.0 ∙ ap (λ (xs : List ℕ). 40 ∷ xs) two.1 in
    ap first_model_lexeme are ∙ first_comment (drop 1 bs)
    ∙ ap (λ (xs : List ℕ). comment_lexeme (length xs) (comment_of xs)) (sym are)
    ∙ ap (comment_lexeme (length (b ∷ bs)))
    (no_end (b ∷ bs) begins none (comment_of (b ∷ bs)) refl)

at_end : (s rest : List ℕ) → rest ≡ [] → s ++ rest ≡ s
at_end s rest e = ap (λ (xs : List ℕ). s ++ xs) e ∙ append-nil s

first_of_lexeme : (t : Token) (s rest : List ℕ) → IsModelLexeme t s rest
    → first_model_lexeme (s ++ rest) ≡ lexemes.Lexeme t (length s)
first_of_lexeme t s rest (Spelled gap spells longest) = spelled_lexeme t s rest gap longest spells
first_of_lexeme t s rest (NoToken b quote is gap none k) =
    sized t b s (first_model_lexeme (s ++ rest)) is (ap (λ (xs : List ℕ). first_model_lexeme (xs ++ rest)) is
    ∙ first_of_none b rest quote (ap (λ (xs : List ℕ). begins_gap (xs ++ rest)) (sym is) ∙ gap)
    (subst (λ (xs : List ℕ). SpellsNone (xs ++ rest)) is none)
    ∙ ap (λ (u : Token). lexemes.Lexeme u 1) (sym k))
first_of_lexeme t s rest (OpenComment begins none end k) =
    ap first_model_lexeme (at_end s rest end) ∙ open_comment_lexeme s begins none
    ∙ ap (λ (u : Token). lexemes.Lexeme u (length s)) (sym k)
first_of_lexeme t s rest (OpenString inside lacks is end k) =
    ap first_model_lexeme (at_end s rest end ∙ is) ∙ first_of_open inside lacks
    ∙ ap (λ (xs : List ℕ). lexemes.Lexeme (tokens.Broken rules.Syntax) (length xs)) (sym is)
    ∙ ap (λ (u : Token). lexemes.Lexeme u (length s)) (sym k)

-- ---- all pieces

end_tokens : (n : ℕ) → tokens_from 0 n [] ≡ record { token = tokens.End; offset = n } ∷ []
unfolding tokens_from
end_tokens n = refl

turn : (n b : ℕ) (bs : List ℕ)
    → tokens_from 0 n (b ∷ bs)
    ≡ after_lexeme n (first_model_lexeme (b ∷ bs)) (λ skip. tokens_from skip (n + 1) bs)
unfolding tokens_from
turn n b bs = refl

gap_turn : (n : ℕ) (s rest : List ℕ) → 0 < length s → first_model_lexeme (s ++ rest) ≡ lexemes.Layout (length s)
    → tokens_from 0 n (s ++ rest) ≡ tokens_from 0 (n + length s) rest
gap_turn n [] rest some e = absurd (omega arith)
gap_turn n (b ∷ bs) rest some e =
    let l = length-append bs rest in
    turn n b (bs ++ rest)
    ∙ ap (λ (f : NextLexeme). after_lexeme n f (λ skip. tokens_from skip (n + 1) (bs ++ rest))) e
    ∙ skipped (length bs) n (bs ++ rest) (omega arith)
    ∙ ap (tokens_from 0 (n + suc (length bs))) (drop_at bs rest (length bs) refl)

lexeme_turn : (n : ℕ) (t : Token) (s rest : List ℕ) → 0 < length s
    → first_model_lexeme (s ++ rest) ≡ lexemes.Lexeme t (length s)
    → tokens_from 0 n (s ++ rest)
    ≡ record { token = t; offset = n } ∷ tokens_from 0 (n + length s) rest
lexeme_turn n t [] rest some e = absurd (omega arith)
lexeme_turn n t (b ∷ bs) rest some e =
    let l = length-append bs rest in
    turn n b (bs ++ rest)
    ∙ ap (λ (f : NextLexeme). after_lexeme n f (λ skip. tokens_from skip (n + 1) (bs ++ rest))) e
    ∙ ap (λ (ps : List TokenAt). record { token = t; offset = n } ∷ ps) (skipped (length bs) n
    (bs ++ rest) (omega arith)
    ∙ ap (tokens_from 0 (n + suc (length bs))) (drop_at bs rest (length bs) refl))

of_pieces : (n : ℕ) (ps : List ModelPiece) → ArePieces ps → tokens_from 0 n (model_text_of ps) ≡ tokens_at n ps
of_pieces n [] h = end_tokens n
of_pieces n (Gap s ∷ ps) h =
    gap_turn n s (model_text_of ps) (gap_bytes s (model_text_of ps) h.0) (first_gap s (model_text_of ps) h.0)
    ∙ of_pieces (n + length s) ps h.1
of_pieces n (Lexeme t s ∷ ps) h =
    lexeme_turn n t s (model_text_of ps) (lexeme_bytes t s (model_text_of ps) h.0)
    (first_of_lexeme t s (model_text_of ps) h.0)
    ∙ ap (λ (qs : List TokenAt). record { token = t; offset = n } ∷ qs)
    (of_pieces (n + length s) ps h.1)

pub only_cut : (bytes : List ℕ) (ps : List TokenAt) → IsModelCut bytes ps → model_lexing bytes ≡ ps
only_cut bytes ps c = ap model_lexing (sym c.whole) ∙ of_pieces 0 c.pieces c.fine ∙ c.tokens
