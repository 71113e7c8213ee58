-- The turns of the lexer's loops.
use Rattle.std.proofs.Common.{◌≡◌, ℕ, zero, suc, ◌+◌, ◌-◌, ◌<◌, ◌≤◌, Bool, true, false, List, [], ◌∷◌, length, take, drop, length-drop, Some, None, sym, ap, ◌∙◌, arith}
use Rattle.std.specs.Prelude.{slice_index, ◌==◌, if◌then◌else◌, Option}
use Rattle.std.proofs.lemmas.List.{at_drop_more, at_drop_all, take_all, get_or-drop, drop-drop}
use Rattle.std.specs.List.{position_or_len}
use Rattle.std.proofs.lemmas.Bool.Decides.{nat_tests}
use Rattle.memchr.specs.Find.{IsFirstByte, is_byte}
use Rattle.text_values.specs.Layout.{comment_of}
use Rattle.text_values.proofs.Bytes.{first_found, none_found}
use Rattle.litmus_tokens.specs.declared.lexer.NextLexeme.TheVariants.{Lexeme}
use Rattle.litmus_tokens.specs.declared.token.Token.TheVariants.{Bad, Keyline}
use Rattle.litmus_tokens.specs.Lexer.{ends_raw, raw_from, is_space, begins_comment, over, gap_from, is_not_ascii, is_equals, line_lexeme}

-- ---- a word of the two that a text begins with

raw_turn : (text : List ℕ) (i : ℕ) → i < length text → raw_from i (drop i text)
    ≡ (if ends_raw (slice_index text i) (slice_index text (i + 1)) then i
    else raw_from (i + 1) (drop (i + 1) text))
unfolding raw_from
raw_turn text i lt =
    at_drop_more (raw_from i) text i 0 lt
    ∙ ap (λ n. if ends_raw (slice_index text i) n then i else raw_from (i + 1) (drop (i + 1) text))
    (next (i + 1))
  where
    next : (j : ℕ) → slice_index (drop j text) 0 ≡ slice_index text j
    next j = simp get_or-drop (ap (slice_index text) (omega arith))

pub raw_stops : (text : List ℕ) (i : ℕ) → i < length text
    → ends_raw (slice_index text i) (slice_index text (i + 1)) ≡ true → raw_from i (drop i text) ≡ i
raw_stops text i lt e =
    raw_turn text i lt ∙ ap (λ (b : Bool). if b then i else raw_from (i + 1) (drop (i + 1) text)) e

pub raw_goes : (text : List ℕ) (i : ℕ) → i < length text
    → ends_raw (slice_index text i) (slice_index text (i + 1)) ≡ false
    → raw_from i (drop i text) ≡ raw_from (i + 1) (drop (i + 1) text)
raw_goes text i lt e =
    raw_turn text i lt ∙ ap (λ (b : Bool). if b then i else raw_from (i + 1) (drop (i + 1) text)) e

pub raw_ends : (text : List ℕ) (i : ℕ) → length text ≤ i → raw_from i (drop i text) ≡ i
unfolding raw_from
raw_ends text i le = at_drop_all (raw_from i) text i le

-- ---- blanks, line ends and comments

gap_over : (n : ℕ) (s c : Bool) (o : Option ℕ) (later : ℕ → ℕ) → s ≡ false → c ≡ true
    → (if s then later 0 else (if c then over n o later else n)) ≡ over n o later
gap_over n s c o later e f =
    ap (λ (b : Bool). if b then later 0 else (if c then over n o later else n)) e
    ∙ ap (λ (b : Bool). if b then over n o later else n) f

gap_stops : (n : ℕ) (s c : Bool) (o : Option ℕ) (later : ℕ → ℕ) → s ≡ false → c ≡ false
    → (if s then later 0 else (if c then over n o later else n)) ≡ n
gap_stops n s c o later e f =
    ap (λ (b : Bool). if b then later 0 else (if c then over n o later else n)) e
    ∙ ap (λ (b : Bool). if b then over n o later else n) f

over_space : (n : ℕ) (l : List ℕ) → 0 < length l → is_space (slice_index l 0) ≡ true
    → gap_from 0 n l ≡ gap_from 0 (n + 1) (drop 1 l)
unfolding gap_from
over_space n [] lt e = absurd (omega arith)
over_space n (b ∷ bs) lt e =
    ap
    (λ (t : Bool). if t then gap_from 0 (n + 1) bs
    else (if begins_comment (b ∷ bs) then over n (comment_of (b ∷ bs))
    (λ skip. gap_from skip (n + 1) bs)
    else n)) e

over_comment : (n k : ℕ) (l : List ℕ) → 0 < length l → is_space (slice_index l 0) ≡ false
    → begins_comment l ≡ true → comment_of l ≡ Some k
    → gap_from 0 n l ≡ gap_from (k - 1) (n + 1) (drop 1 l)
unfolding gap_from
over_comment n k [] lt e f g = absurd (omega arith)
over_comment n k (b ∷ bs) lt e f g =
    gap_over n (is_space b) (begins_comment (b ∷ bs)) (comment_of (b ∷ bs))
    (λ skip. gap_from skip (n + 1) bs) e f
    ∙ ap (λ (o : Option ℕ). over n o (λ skip. gap_from skip (n + 1) bs)) g

before_open : (n : ℕ) (l : List ℕ) → 0 < length l → is_space (slice_index l 0) ≡ false
    → begins_comment l ≡ true → comment_of l ≡ None → gap_from 0 n l ≡ n
unfolding gap_from
before_open n [] lt e f g = absurd (omega arith)
before_open n (b ∷ bs) lt e f g =
    gap_over n (is_space b) (begins_comment (b ∷ bs)) (comment_of (b ∷ bs))
    (λ skip. gap_from skip (n + 1) bs) e f
    ∙ ap (λ (o : Option ℕ). over n o (λ skip. gap_from skip (n + 1) bs)) g

before_other : (n : ℕ) (l : List ℕ) → 0 < length l → is_space (slice_index l 0) ≡ false
    → begins_comment l ≡ false → gap_from 0 n l ≡ n
unfolding gap_from
before_other n [] lt e f = absurd (omega arith)
before_other n (b ∷ bs) lt e f =
    gap_stops n (is_space b) (begins_comment (b ∷ bs)) (comment_of (b ∷ bs))
    (λ skip. gap_from skip (n + 1) bs) e f

pub skipped : (skip n : ℕ) (l : List ℕ) → skip ≤ length l
    → gap_from skip n l ≡ gap_from 0 (n + skip) (drop skip l)
unfolding gap_from
skipped zero n l le = ap (λ k. gap_from 0 k l) (omega arith)
skipped (suc s) n [] le = absurd (omega arith)
skipped (suc s) n (b ∷ bs) le =
    skipped s (n + 1) bs (omega arith) ∙ ap (λ k. gap_from 0 k (drop s bs)) (omega arith)

-- the bytes from an offset on, as the code slices them
from_here : (text : List ℕ) (n : ℕ) → n ≤ length text
    → take (length text - n) (drop n text) ≡ drop n text
from_here text n le = take_all (length text - n) (drop n text) (simp length-drop (omega arith))

pub gap_space : (text : List ℕ) (n : ℕ) → n < length text
    → is_space (slice_index (take (length text - n) (drop n text)) 0) ≡ true
    → gap_from 0 n (drop n text) ≡ gap_from 0 (n + 1) (drop (n + 1) text)
gap_space text n lt e =
    over_space n (drop n text) (simp length-drop (omega arith)) (ap
    (λ l. is_space (slice_index l 0)) (sym (from_here text n (omega arith))) ∙ e)
    ∙ ap (gap_from 0 (n + 1)) (drop-drop 1 n text)

pub gap_comment : (text : List ℕ) (n k : ℕ) → n < length text → 2 ≤ k
    → k ≤ length (take (length text - n) (drop n text))
    → is_space (slice_index (take (length text - n) (drop n text)) 0) ≡ false
    → begins_comment (take (length text - n) (drop n text)) ≡ true
    → comment_of (take (length text - n) (drop n text)) ≡ Some k
    → (n + k ≤ length text) × (gap_from 0 n (drop n text) ≡ gap_from 0 (n + k) (drop (n + k) text))
gap_comment text n k lt two le e f g =
    let same = sym (from_here text n (omega arith)) in
    let short : n + k ≤ length text = omega (arith, ap length (from_here text n (omega arith)), length-drop n text) in (
      short,
      over_comment n k (drop n text) (simp length-drop (omega arith))
          (ap (λ l. is_space (slice_index l 0)) same ∙ e) (ap begins_comment same ∙ f)
          (ap comment_of same ∙ g)
          ∙ ap (gap_from (k - 1) (n + 1)) (drop-drop 1 n text)
          ∙ skipped (k - 1) (n + 1) (drop (n + 1) text) (simp length-drop (omega arith))
          ∙ ap (gap_from 0 (n + 1 + (k - 1))) (drop-drop (k - 1) (n + 1) text)
          ∙ ap (λ m. gap_from 0 m (drop m text)) (omega arith),
    )

pub gap_open : (text : List ℕ) (n : ℕ) → n < length text
    → is_space (slice_index (take (length text - n) (drop n text)) 0) ≡ false
    → begins_comment (take (length text - n) (drop n text)) ≡ true
    → comment_of (take (length text - n) (drop n text)) ≡ None
    → gap_from 0 n (drop n text) ≡ n
gap_open text n lt e f g =
    let same = sym (from_here text n (omega arith)) in
    before_open n (drop n text) (simp length-drop (omega arith))
    (ap (λ l. is_space (slice_index l 0)) same ∙ e) (ap begins_comment same ∙ f)
    (ap comment_of same ∙ g)

pub gap_other : (text : List ℕ) (n : ℕ) → n < length text
    → is_space (slice_index (take (length text - n) (drop n text)) 0) ≡ false
    → begins_comment (take (length text - n) (drop n text)) ≡ false
    → gap_from 0 n (drop n text) ≡ n
gap_other text n lt e f =
    let same = sym (from_here text n (omega arith)) in
    before_other n (drop n text) (simp length-drop (omega arith))
    (ap (λ l. is_space (slice_index l 0)) same ∙ e) (ap begins_comment same ∙ f)

pub gap_ends : (text : List ℕ) (n : ℕ) → length text ≤ n → gap_from 0 n (drop n text) ≡ n
unfolding gap_from
gap_ends text n le = at_drop_all (gap_from 0 n) text n le

-- ---- lines

holds_one : {A : Type 0} (p n : ℕ) (a b : A) → p < n → (if p == n then a else b) ≡ b
holds_one p n a b lt = grind (arith, nat_tests)

holds_none : {A : Type 0} (p n : ℕ) (a b : A) → n ≡ p → (if p == n then a else b) ≡ a
holds_none p n a b e = grind (arith, nat_tests)

pub keyline : (line : List ℕ) (at : ℕ) → IsFirstByte (is_byte 61) line (Some at)
    → line_lexeme line ≡ Lexeme Keyline (position_or_len is_not_ascii line)
keyline line at h =
    let found = first_found 61 line at h in
    let n = h.0 in
    let below : at < length line = let x = n.high in omega arith in
    holds_one (position_or_len is_equals line) (length line) (Lexeme Bad 1)
    (Lexeme Keyline (position_or_len is_not_ascii line)) (omega arith)

pub no_keyline : (line : List ℕ) → IsFirstByte (is_byte 61) line None
    → line_lexeme line ≡ Lexeme Bad 1
no_keyline line h =
    holds_none (position_or_len is_equals line) (length line) (Lexeme Bad 1)
    (Lexeme Keyline (position_or_len is_not_ascii line)) (none_found 61 line h)
