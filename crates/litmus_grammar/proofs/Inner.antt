-- No token before the end of a text is an end.
use Rattle.std.proofs.Common.{◌≡◌, ℕ, zero, suc, ◌+◌, ◌-◌, ◌≤◌, arith, Bool, true, false, List, [], ◌∷◌, ◌++◌, Option, Some, None, refl, sym, ap, ◌∙◌, subst}
use Rattle.std.specs.Prelude.{◌&&◌, ◌||◌, ◌==◌, slice_index, take, drop, length, codes, if◌then◌else◌}
use Rattle.std.specs.List.{position_or_len}
use Rattle.std.specs.Str.{bytes_eq}
use Rattle.text_values.specs.Layout.{is_blank, is_line_end, quoted_from, comment_of}
use Rattle.litmus_tokens.specs.declared.rule.LitmusRule.TheVariants as rules
use Rattle.litmus_tokens.specs.declared.stage.Stage.{Stage}
use Rattle.litmus_tokens.specs.declared.stage.Stage.TheVariants as stages
use Rattle.litmus_tokens.specs.declared.token.Token.{Token}
use Rattle.litmus_tokens.specs.declared.token.Token.TheVariants as tokens
use Rattle.litmus_tokens.specs.declared.token.Mark as declared_mark
use Rattle.litmus_tokens.specs.declared.lexer.NextLexeme.{NextLexeme}
use Rattle.litmus_tokens.specs.declared.lexer.NextLexeme.TheVariants.{Layout, Lexeme}
use Rattle.litmus_tokens.specs.Lexer.{first_lexeme, is_not_ascii, begins_comment, is_equals, ends_word, gap_from, raw_from, raw_lexeme, comment_lexeme, quoted_lexeme, line_lexeme, word_lexeme, mark_of, mark_lexeme, sign_lexeme, plain_lexeme, head_lexeme, stage_lexeme}
use Rattle.litmus_tokens.specs.Stage.{next_stage}
use Rattle.litmus_tokens.specs.Texts.{TokenAt, test_tokens_of, ends_line, after_lexeme, tokens_from, test_lexing}
use Rattle.text_values.specs.Letters.{is_letter, is_digit}

abbrev pub IsInner : Token → Type 0
IsInner tokens.End = ⊥
IsInner t = Unit {0}

abbrev pub AreInner : List Token → Type 0
AreInner [] = Unit {0}
AreInner (t ∷ ts) = IsInner t × AreInner ts

-- ---- what a text begins with

abbrev LexemeInner : NextLexeme → Type 0
LexemeInner (Layout n) = Unit {0}
LexemeInner (Lexeme t n) = IsInner t

either : (b : Bool) (f g : NextLexeme) → LexemeInner f → LexemeInner g → LexemeInner (if b then f else g)
either true f g x y = x
either false f g x y = y

comment_inner : (n : ℕ) (o : Option ℕ) → LexemeInner (comment_lexeme n o)
comment_inner n (Some k) = tt
comment_inner n None = tt

quoted_inner : (o : Option ℕ) → LexemeInner (quoted_lexeme o)
quoted_inner (Some k) = tt
quoted_inner None = tt

mark_inner : (o : Option declared_mark.Mark) → LexemeInner (mark_lexeme o)
mark_inner (Some m) = tt
mark_inner None = tt

raw_inner : (bs : List ℕ) (n : ℕ) → LexemeInner (raw_lexeme bs n)
raw_inner bs n = either (is_line_end (slice_index bs 0)) _ _ tt tt

too_many : (b : Bool) (w : List ℕ) (n : ℕ)
    → LexemeInner (Lexeme (if b then tokens.Broken rules.TooManyThreads else tokens.Word w) n)
too_many true w n = tt
too_many false w n = tt

word_inner : (s : Stage) (bs : List ℕ) (n : ℕ) → LexemeInner (word_lexeme s bs n)
word_inner stages.CellBegins bs n =
    either (slice_index bs (n + gap_from 0 0 (drop n bs)) == 58) _ _ tt tt
word_inner (stages.Header zero) bs n = too_many (bytes_eq (take n bs) (codes "P8")) (take n bs) n
word_inner (stages.Header (suc k)) bs n = tt
word_inner stages.Magic bs n = tt
word_inner stages.Title bs n = tt
word_inner stages.TitleEnd bs n = tt
word_inner stages.Head bs n = tt
word_inner (stages.Init a b) bs n = tt
word_inner stages.InCell bs n = tt
word_inner stages.Tail bs n = tt

sign_inner : (b next : ℕ) → LexemeInner (sign_lexeme b next)
sign_inner b next =
    either (b == 47 && next == 92) _ _ tt (
    either (b == 92 && next == 47) _ _ tt (
    either (b == 61 && next == 62) _ _ tt (mark_inner (mark_of b))))

plain_inner : (s : Stage) (bs : List ℕ) → LexemeInner (plain_lexeme s bs)
plain_inner s bs =
    either (is_line_end (slice_index bs 0)) _ _ tt (
    either (is_letter (slice_index bs 0) || slice_index bs 0 == 95) _ _
    (word_inner s bs (position_or_len ends_word bs)) (
    either (is_digit (slice_index bs 0)) _ _ tt (
    either (slice_index bs 0 == 45 && is_digit (slice_index bs 1)) _ _ tt
    (sign_inner (slice_index bs 0) (slice_index bs 1)))))

line_inner : (line : List ℕ) → LexemeInner (line_lexeme line)
line_inner line = either (position_or_len is_equals line == length line) _ _ tt tt

head_inner : (fresh : Bool) (bs : List ℕ) → LexemeInner (head_lexeme fresh bs)
head_inner fresh bs =
    either (fresh && is_letter (slice_index bs 0)) _ _
    (line_inner (take (position_or_len is_line_end bs) bs)) (
    either (slice_index bs 0 == 34) _ _ (quoted_inner (quoted_from bs))
    (plain_inner stages.Head bs))

stage_inner : (s : Stage) (fresh : Bool) (bs : List ℕ) → LexemeInner (stage_lexeme s fresh bs)
stage_inner stages.Magic fresh bs = raw_inner bs (raw_from 0 bs)
stage_inner stages.Title fresh bs = raw_inner bs (raw_from 0 bs)
stage_inner stages.TitleEnd fresh bs = either (is_line_end (slice_index bs 0)) _ _ tt tt
stage_inner stages.Head fresh bs = head_inner fresh bs
stage_inner (stages.Init a b) fresh bs = plain_inner (stages.Init a b) bs
stage_inner (stages.Header k) fresh bs = plain_inner (stages.Header k) bs
stage_inner stages.CellBegins fresh bs = plain_inner stages.CellBegins bs
stage_inner stages.InCell fresh bs = plain_inner stages.InCell bs
stage_inner stages.Tail fresh bs = plain_inner stages.Tail bs

first_inner : (s : Stage) (fresh : Bool) (bs : List ℕ) → LexemeInner (first_lexeme s fresh bs)
unfolding first_lexeme
first_inner s fresh bs =
    either (is_not_ascii (slice_index bs 0)) _ _ tt (
    either (is_blank (slice_index bs 0)) _ _ tt (
    either (begins_comment bs) _ _ (comment_inner (length bs) (comment_of bs))
    (stage_inner s fresh bs)))

-- ---- a whole text

-- tokens of which just the last is an end
pub record EndsOnce (ps : List TokenAt) : Type 0 where
  pub inner : List TokenAt
  pub offset : ℕ
  pub split : ps ≡ inner ++ record { token = tokens.End; offset = offset } ∷ []
  pub are_inner : AreInner (test_tokens_of inner)

from_ends : (s : Stage) (fresh : Bool) (skip offset : ℕ) (bytes : List ℕ)
    → EndsOnce (tokens_from s fresh skip offset bytes)
unfolding tokens_from
from_ends s fresh skip offset [] =
    record { inner = []; offset = offset; split = refl; are_inner = tt }
from_ends s fresh (suc skip) offset (b ∷ bs) = from_ends s fresh skip (offset + 1) bs
from_ends s fresh zero offset (b ∷ bs) =
    by_lexeme (first_lexeme s fresh (b ∷ bs)) (first_inner s fresh (b ∷ bs))
    (λ g f skip. from_ends g f skip (offset + 1) bs)
  where
    by_lexeme : (f : NextLexeme) → LexemeInner f
        → ((g : Stage) (f : Bool) (skip : ℕ) → EndsOnce (tokens_from g f skip (offset + 1) bs))
        → EndsOnce (after_lexeme s fresh offset b f
        (λ g f skip. tokens_from g f skip (offset + 1) bs))
    by_lexeme (Layout k) i r = r _ _ _
    by_lexeme (Lexeme t k) i r =
        let q = r (next_stage s t) (ends_line t) (k - 1) in
        record {
          inner = record { token = t; offset = offset } ∷ q.inner;
          offset = q.offset;
          split = ap (λ (ps : List TokenAt). record { token = t; offset = offset } ∷ ps) q.split;
          are_inner = (i, q.are_inner);
        }

pub lexed_ends : (s : Stage) (bytes : List ℕ) → EndsOnce (test_lexing s bytes)
lexed_ends s bytes = from_ends s false 0 0 bytes

nothing_behind : (bs : List TokenAt) (p : TokenAt) (cs : List TokenAt) → bs ++ p ∷ cs ≡ [] → ⊥
nothing_behind [] p cs e = absurd cc
nothing_behind (b ∷ bs) p cs e = absurd cc

-- what stands before a token of a text is no end
pub before_inner : (qs : List TokenAt) (e : TokenAt) (before : List TokenAt) (p : TokenAt)
    (behind : List TokenAt) → before ++ p ∷ behind ≡ qs ++ e ∷ [] → AreInner (test_tokens_of qs)
    → AreInner (test_tokens_of before)
before_inner qs e [] p behind same i = tt
before_inner [] e (b ∷ before) p behind same i = absurd (nothing_behind before p behind cc)
before_inner (q ∷ qs) e (b ∷ before) p behind same i =
    let first : b ≡ q = cc in
    let others : before ++ p ∷ behind ≡ qs ++ e ∷ [] = cc in (
      subst (λ (x : TokenAt). IsInner x.token) (sym first) i.0,
      before_inner qs e before p behind others i.1,
    )

pub lexed_inner : (s : Stage) (bytes : List ℕ) (before : List TokenAt) (p : TokenAt)
    (behind : List TokenAt) → test_lexing s bytes ≡ before ++ p ∷ behind → AreInner (test_tokens_of before)
lexed_inner s bytes before p behind e =
    let l = lexed_ends s bytes in
    before_inner l.inner (record { token = tokens.End; offset = l.offset }) before p behind
    (sym e ∙ l.split) l.are_inner

from_length : (s : Stage) (fresh : Bool) (skip offset : ℕ) (bytes : List ℕ)
    → length (tokens_from s fresh skip offset bytes) ≤ length bytes + 1
unfolding tokens_from
from_length s fresh skip offset [] = omega arith
from_length s fresh (suc skip) offset (b ∷ bs) =
    let h = from_length s fresh skip (offset + 1) bs in omega (arith, h)
from_length s fresh zero offset (b ∷ bs) =
    by_lexeme (first_lexeme s fresh (b ∷ bs)) (λ g f skip. from_length g f skip (offset + 1) bs)
  where
    by_lexeme : (f : NextLexeme)
        → ((g : Stage) (f : Bool) (skip : ℕ)
        → length (tokens_from g f skip (offset + 1) bs) ≤ length bs + 1)
        → length (after_lexeme s fresh offset b f (λ g f skip. tokens_from g f skip (offset + 1) bs))
        ≤ length (b ∷ bs) + 1
    by_lexeme (Layout k) r =
        let h = r _ _ (k - 1) in
        let m : length (after_lexeme s fresh offset b (Layout k)
        (λ g f skip. tokens_from g f skip (offset + 1) bs)) ≤ length bs + 1 = h in
        omega (arith, m)
    by_lexeme (Lexeme t k) r = let h = r (next_stage s t) (ends_line t) (k - 1) in omega (arith, h)

pub lexed_length : (s : Stage) (bytes : List ℕ) → length (test_lexing s bytes) ≤ length bytes + 1
lexed_length s bytes = from_length s false 0 0 bytes
