-- The tokens of a text, without their places, one after another.
use Rattle.std.proofs.Common.{◌≡◌, ℕ, zero, suc, ◌+◌, ◌-◌, ◌<◌, ◌≤◌, Bool, true, false, List, [], ◌∷◌, ◌++◌, length, refl, sym, ap, ◌∙◌, arith}
use Rattle.std.specs.Prelude.{if◌then◌else◌, ◌==◌, ◌||◌, nat_le, slice_index}
use Rattle.std.proofs.lemmas.Bool.{and_left}
use Rattle.std.proofs.lemmas.Bool.Decides.{nat_tests}
use Rattle.text_values.specs.Layout.{is_blank}
use Rattle.std.proofs.lemmas.List.{drop_at, length-append}
use Rattle.litmus_tokens.specs.declared.stage.Stage.{Stage}
use Rattle.litmus_tokens.specs.declared.stage.Stage.TheVariants.{Magic, Title, TitleEnd, Head, Init, Header, CellBegins, InCell, Tail}
use Rattle.litmus_tokens.specs.declared.token.Token.{Token}
use Rattle.litmus_tokens.specs.declared.token.Token.TheVariants as tokens
use Rattle.litmus_tokens.specs.declared.token.Mark.TheVariants as marks
use Rattle.litmus_tokens.specs.declared.lexer.NextLexeme.{NextLexeme}
use Rattle.litmus_tokens.specs.declared.lexer.NextLexeme.TheVariants.{Layout, Lexeme}
use Rattle.litmus_tokens.specs.Words.{ends_table}
use Rattle.text_values.specs.Letters.{is_digit}
use Rattle.litmus_tokens.specs.Lexer.{first_lexeme, begins_comment, stage_lexeme}
use Rattle.litmus_tokens.specs.Stage.{next_stage, after_brace}
use Rattle.litmus_tokens.specs.Texts.{TokenAt, test_tokens_of, ends_line, fresh_after, after_lexeme, tokens_from}
use Rattle.litmus_grammar.proofs.Lexed.{tokens_skip}
use Rattle.litmus_laws.specs.Written.{begins_word}
use Rattle.text_laws.proofs.Runs.{other}

-- the parts from the init block on: how a line began does not bear on them
abbrev pub is_past : Stage → Bool
is_past Magic = false
is_past Title = false
is_past TitleEnd = false
is_past Head = false
is_past (Init a w) = true
is_past (Header n) = true
is_past CellBegins = true
is_past InCell = true
is_past Tail = true

-- the part, whatever was read last in the init block
abbrev pub core : Stage → Stage
core (Init a w) = Init a false
core s = s

abbrev pub read : Stage → List ℕ → List Token
read s bs = test_tokens_of (tokens_from s false 0 0 bs)

past_brace : (a : Bool) → is_past (after_brace a) ≡ true
past_brace true = refl
past_brace false = refl

past_word : (b : Bool) → is_past (if b then Tail else InCell) ≡ true
past_word true = refl
past_word false = refl

past_init : (a w : Bool) (t : Token) → is_past (next_stage (Init a w) t) ≡ true
past_init a w (tokens.Word n) = refl
past_init a w (tokens.Number b n) = refl
past_init a w (tokens.Label n) = refl
past_init a w tokens.Text = refl
past_init a w tokens.Keyline = refl
past_init a w tokens.LineEnd = refl
past_init a w (tokens.Mark marks.OpenBrace) = refl
past_init a w (tokens.Mark marks.CloseBrace) = past_brace a
past_init a w (tokens.Mark marks.OpenBracket) = refl
past_init a w (tokens.Mark marks.CloseBracket) = refl
past_init a w (tokens.Mark marks.Open) = refl
past_init a w (tokens.Mark marks.Close) = refl
past_init a w (tokens.Mark marks.Comma) = refl
past_init a w (tokens.Mark marks.Semicolon) = refl
past_init a w (tokens.Mark marks.Colon) = refl
past_init a w (tokens.Mark marks.Bar) = refl
past_init a w (tokens.Mark marks.Equals) = refl
past_init a w (tokens.Mark marks.Tilde) = refl
past_init a w (tokens.Mark marks.And) = refl
past_init a w (tokens.Mark marks.Or) = refl
past_init a w (tokens.Mark marks.Implies) = refl
past_init a w tokens.End = refl
past_init a w tokens.Bad = refl
past_init a w (tokens.Broken r) = refl

past_header : (n : ℕ) (t : Token) → is_past (next_stage (Header n) t) ≡ true
past_header k (tokens.Word n) = refl
past_header k (tokens.Number b n) = refl
past_header k (tokens.Label n) = refl
past_header k tokens.Text = refl
past_header k tokens.Keyline = refl
past_header k tokens.LineEnd = refl
past_header k (tokens.Mark marks.OpenBrace) = refl
past_header k (tokens.Mark marks.CloseBrace) = refl
past_header k (tokens.Mark marks.OpenBracket) = refl
past_header k (tokens.Mark marks.CloseBracket) = refl
past_header k (tokens.Mark marks.Open) = refl
past_header k (tokens.Mark marks.Close) = refl
past_header k (tokens.Mark marks.Comma) = refl
past_header k (tokens.Mark marks.Semicolon) = refl
past_header k (tokens.Mark marks.Colon) = refl
past_header k (tokens.Mark marks.Bar) = refl
past_header k (tokens.Mark marks.Equals) = refl
past_header k (tokens.Mark marks.Tilde) = refl
past_header k (tokens.Mark marks.And) = refl
past_header k (tokens.Mark marks.Or) = refl
past_header k (tokens.Mark marks.Implies) = refl
past_header k tokens.End = refl
past_header k tokens.Bad = refl
past_header k (tokens.Broken r) = refl

past_begins : (t : Token) → is_past (next_stage CellBegins t) ≡ true
past_begins (tokens.Word n) = past_word (ends_table n)
past_begins (tokens.Number b n) = refl
past_begins (tokens.Label n) = refl
past_begins tokens.Text = refl
past_begins tokens.Keyline = refl
past_begins tokens.LineEnd = refl
past_begins (tokens.Mark marks.OpenBrace) = refl
past_begins (tokens.Mark marks.CloseBrace) = refl
past_begins (tokens.Mark marks.OpenBracket) = refl
past_begins (tokens.Mark marks.CloseBracket) = refl
past_begins (tokens.Mark marks.Open) = refl
past_begins (tokens.Mark marks.Close) = refl
past_begins (tokens.Mark marks.Comma) = refl
past_begins (tokens.Mark marks.Semicolon) = refl
past_begins (tokens.Mark marks.Colon) = refl
past_begins (tokens.Mark marks.Bar) = refl
past_begins (tokens.Mark marks.Equals) = refl
past_begins (tokens.Mark marks.Tilde) = refl
past_begins (tokens.Mark marks.And) = refl
past_begins (tokens.Mark marks.Or) = refl
past_begins (tokens.Mark marks.Implies) = refl
past_begins tokens.End = refl
past_begins tokens.Bad = refl
past_begins (tokens.Broken r) = refl

past_cell : (t : Token) → is_past (next_stage InCell t) ≡ true
past_cell (tokens.Word n) = refl
past_cell (tokens.Number b n) = refl
past_cell (tokens.Label n) = refl
past_cell tokens.Text = refl
past_cell tokens.Keyline = refl
past_cell tokens.LineEnd = refl
past_cell (tokens.Mark marks.OpenBrace) = refl
past_cell (tokens.Mark marks.CloseBrace) = refl
past_cell (tokens.Mark marks.OpenBracket) = refl
past_cell (tokens.Mark marks.CloseBracket) = refl
past_cell (tokens.Mark marks.Open) = refl
past_cell (tokens.Mark marks.Close) = refl
past_cell (tokens.Mark marks.Comma) = refl
past_cell (tokens.Mark marks.Semicolon) = refl
past_cell (tokens.Mark marks.Colon) = refl
past_cell (tokens.Mark marks.Bar) = refl
past_cell (tokens.Mark marks.Equals) = refl
past_cell (tokens.Mark marks.Tilde) = refl
past_cell (tokens.Mark marks.And) = refl
past_cell (tokens.Mark marks.Or) = refl
past_cell (tokens.Mark marks.Implies) = refl
past_cell tokens.End = refl
past_cell tokens.Bad = refl
past_cell (tokens.Broken r) = refl

-- whether a word was read last does not bear on what follows
last_free : (a w : Bool) (t : Token) → next_stage (Init a w) t ≡ next_stage (Init a false) t
last_free a w (tokens.Word n) = refl
last_free a w (tokens.Number b n) = refl
last_free a w (tokens.Label n) = refl
last_free a w tokens.Text = refl
last_free a w tokens.Keyline = refl
last_free a w tokens.LineEnd = refl
last_free a w (tokens.Mark marks.OpenBrace) = refl
last_free a w (tokens.Mark marks.CloseBrace) = refl
last_free a w (tokens.Mark marks.OpenBracket) = refl
last_free a w (tokens.Mark marks.CloseBracket) = refl
last_free a w (tokens.Mark marks.Open) = refl
last_free a w (tokens.Mark marks.Close) = refl
last_free a w (tokens.Mark marks.Comma) = refl
last_free a w (tokens.Mark marks.Semicolon) = refl
last_free a w (tokens.Mark marks.Colon) = refl
last_free a w (tokens.Mark marks.Bar) = refl
last_free a w (tokens.Mark marks.Equals) = refl
last_free a w (tokens.Mark marks.Tilde) = refl
last_free a w (tokens.Mark marks.And) = refl
last_free a w (tokens.Mark marks.Or) = refl
last_free a w (tokens.Mark marks.Implies) = refl
last_free a w tokens.End = refl
last_free a w tokens.Bad = refl
last_free a w (tokens.Broken r) = refl

pub past_after : (s : Stage) (t : Token) → is_past s ≡ true → is_past (next_stage s t) ≡ true
past_after Magic t h = absurd cc
past_after Title t h = absurd cc
past_after TitleEnd t h = absurd cc
past_after Head t h = absurd cc
past_after (Init a w) t h = past_init a w t
past_after (Header n) t h = past_header n t
past_after CellBegins t h = past_begins t
past_after InCell t h = past_cell t
past_after Tail t h = refl

past_core : (s : Stage) → is_past s ≡ true → is_past (core s) ≡ true
past_core Magic h = h
past_core Title h = h
past_core TitleEnd h = h
past_core Head h = h
past_core (Init a w) h = refl
past_core (Header n) h = refl
past_core CellBegins h = refl
past_core InCell h = refl
past_core Tail h = refl

core_core : (s : Stage) → core (core s) ≡ core s
core_core Magic = refl
core_core Title = refl
core_core TitleEnd = refl
core_core Head = refl
core_core (Init a w) = refl
core_core (Header n) = refl
core_core CellBegins = refl
core_core InCell = refl
core_core Tail = refl

core_after : (s : Stage) (t : Token) → core (next_stage s t) ≡ core (next_stage (core s) t)
core_after Magic t = refl
core_after Title t = refl
core_after TitleEnd t = refl
core_after Head t = refl
core_after (Init a w) t = ap core (last_free a w t)
core_after (Header n) t = refl
core_after CellBegins t = refl
core_after InCell t = refl
core_after Tail t = refl

core_lexeme : (s : Stage) (f : Bool) (bs : List ℕ) → is_past s ≡ true
    → first_lexeme s f bs ≡ first_lexeme (core s) false bs
unfolding first_lexeme
core_lexeme Magic f bs h = absurd cc
core_lexeme Title f bs h = absurd cc
core_lexeme TitleEnd f bs h = absurd cc
core_lexeme Head f bs h = absurd cc
core_lexeme (Init a w) f bs h = refl
core_lexeme (Header n) f bs h = refl
core_lexeme CellBegins f bs h = refl
core_lexeme InCell f bs h = refl
core_lexeme Tail f bs h = refl

after_free : (s : Stage) (f g : Bool) (p q b : ℕ) (x : NextLexeme)
    (later other : Stage → Bool → ℕ → List TokenAt)
    → ((u v : Bool) (k : ℕ) → test_tokens_of (later s u k) ≡ test_tokens_of (other (core s) v k))
    → ((t : Token) (v : Bool) (k : ℕ)
    → test_tokens_of (later (next_stage s t) v k) ≡ test_tokens_of (other (next_stage (core s) t) v k))
    → test_tokens_of (after_lexeme s f p b x later) ≡ test_tokens_of (after_lexeme (core s) g q b x other)
after_free s f g p q b (Layout n) later other same next =
    same (fresh_after f b) (fresh_after g b) (n - 1)
after_free s f g p q b (Lexeme t n) later other same next =
    ap (λ (ts : List Token). t ∷ ts) (next t (ends_line t) (n - 1))

-- the places, the lines and what was read last in the init block do not bear on the tokens
pub free : (s : Stage) (f : Bool) (k p : ℕ) (bs : List ℕ) → is_past s ≡ true
    → test_tokens_of (tokens_from s f k p bs) ≡ test_tokens_of (tokens_from (core s) false k 0 bs)
unfolding tokens_from
free s f k p [] h = refl
free s f (suc k) p (b ∷ bs) h =
    free s f k (p + 1) bs h
    ∙ sym (free (core s) false k 1 bs (past_core s h)
    ∙ ap (λ (u : Stage). test_tokens_of (tokens_from u false k 0 bs)) (core_core s))
free s f zero p (b ∷ bs) h =
    ap (λ (x : NextLexeme). test_tokens_of (after_lexeme s f p b x (λ u g k. tokens_from u g k (p + 1) bs)))
    (core_lexeme s f (b ∷ bs) h)
    ∙ after_free s f false p 0 b (first_lexeme (core s) false (b ∷ bs))
    (λ u g k. tokens_from u g k (p + 1) bs) (λ u g k. tokens_from u g k 1 bs)
    (λ u v k. free s u k (p + 1) bs h
    ∙ sym (free (core s) v k 1 bs (past_core s h)
    ∙ ap (λ (u : Stage). test_tokens_of (tokens_from u false k 0 bs)) (core_core s)))
    (λ t v k. free (next_stage s t) v k (p + 1) bs (past_after s t h)
    ∙ ap (λ (u : Stage). test_tokens_of (tokens_from u false k 0 bs)) (core_after s t)
    ∙ sym (free (next_stage (core s) t) v k 1 bs (past_after (core s) t (past_core s h))))

-- a token, in a part from the init block on
pub turn : (s : Stage) (b : ℕ) (word rest : List ℕ) (t : Token) → is_past s ≡ true
    → first_lexeme s false (b ∷ (word ++ rest)) ≡ Lexeme t (length (b ∷ word))
    → read s (b ∷ (word ++ rest)) ≡ t ∷ read (core (next_stage s t)) rest
unfolding tokens_from
turn s b word rest t h e =
    let l = length-append word rest in
    ap
    (λ (x : NextLexeme).
    test_tokens_of (after_lexeme s false 0 b x (λ u g k. tokens_from u g k 1 (word ++ rest)))) e
    ∙ ap (λ (k : ℕ). t ∷ test_tokens_of (tokens_from (next_stage s t) (ends_line t) k 1 (word ++ rest)))
    (omega arith)
    ∙ ap (λ (ps : List TokenAt). t ∷ test_tokens_of ps) (tokens_skip (next_stage s t) (ends_line t)
    (length word) 1 (word ++ rest) (omega arith))
    ∙ ap
    (λ (x : List ℕ). t
    ∷ test_tokens_of (tokens_from (next_stage s t) (ends_line t) 0 (1 + length word) x))
    (drop_at word rest (length word) refl)
    ∙ ap (λ (ts : List Token). t ∷ ts) (free (next_stage s t) (ends_line t) 0 (1 + length word) rest
    (past_after s t h))

-- ---- three parts that a token of their own does not end

pub data InnerPart : Type 0 where
  Entries : InnerPart
  Operands : InnerPart
  Condition : InnerPart

abbrev pub part : InnerPart → Stage
part Entries = Init false false
part Operands = InCell
part Condition = Tail

-- what is read there
abbrev pub inner : InnerPart → List ℕ → List Token
inner w bs = read (part w) bs

past_part : (w : InnerPart) → is_past (part w) ≡ true
past_part Entries = refl
past_part Operands = refl
past_part Condition = refl

part_lexeme : (w : InnerPart) (bs : List ℕ) → first_lexeme (part w) false bs ≡ first_lexeme Tail false bs
unfolding first_lexeme
part_lexeme Entries bs = refl
part_lexeme Operands bs = refl
part_lexeme Condition bs = refl

-- a token that ends no part
pub inner_turn : (w : InnerPart) (b : ℕ) (word rest : List ℕ) (t : Token)
    → core (next_stage (part w) t) ≡ part w
    → first_lexeme Tail false (b ∷ (word ++ rest)) ≡ Lexeme t (length (b ∷ word))
    → inner w (b ∷ (word ++ rest)) ≡ t ∷ inner w rest
inner_turn w b word rest t stays e =
    turn (part w) b word rest t (past_part w) (part_lexeme w (b ∷ (word ++ rest)) ∙ e)
    ∙ ap (λ (s : Stage). t ∷ read s rest) stays

pub word_stays : (w : InnerPart) (n : List ℕ) → core (next_stage (part w) (tokens.Word n)) ≡ part w
word_stays Entries n = refl
word_stays Operands n = refl
word_stays Condition n = refl

pub number_stays : (w : InnerPart) (b : Bool) (n : List ℕ)
    → core (next_stage (part w) (tokens.Number b n)) ≡ part w
number_stays Entries b n = refl
number_stays Operands b n = refl
number_stays Condition b n = refl

-- ---- what a byte is not

-- a byte of a word, or a digit, begins no comment, and is no blank
pub record IsOfWord (b : ℕ) : Type 0 where
  pub low : 48 ≤ b
  pub high : b < 128

pub first_of : (b : ℕ) → begins_word b ≡ true → IsOfWord b
first_of b h = record { low = grind (arith, nat_tests); high = grind (arith, nat_tests) }

pub digit_of : (b : ℕ) → is_digit b ≡ true → IsOfWord b
digit_of b h = record { low = grind (arith, nat_tests); high = grind (arith, nat_tests) }

no_blank : (b : ℕ) → IsOfWord b → (b == 32 || b == 9 || b == 13) ≡ false
no_blank b h = let l = h.low in grind (arith, nat_tests)

ascii : (b : ℕ) → IsOfWord b → nat_le 128 b ≡ false
ascii b h = let l = h.high in grind (arith, nat_tests)

pub three_tests : {A : Type 0} (x y z : Bool) (a b c d : A) → x ≡ false → y ≡ false → z ≡ false
    → (if x then a else (if y then b else (if z then c else d))) ≡ d
three_tests x y z a b c d e f g =
    ap (λ (t : Bool). if t then a else (if y then b else (if z then c else d))) e
    ∙ ap (λ (t : Bool). if t then b else (if z then c else d)) f
    ∙ ap (λ (t : Bool). if t then c else d) g

-- what such a byte begins is looked at as in every part
pub word_byte : (s : Stage) (b : ℕ) (bs : List ℕ) → IsOfWord b
    → first_lexeme s false (b ∷ bs) ≡ stage_lexeme s false (b ∷ bs)
unfolding first_lexeme
word_byte s b bs h =
    let l = h.low in
    three_tests (nat_le 128 b) (is_blank b) (begins_comment (b ∷ bs)) _ _ _ _ (ascii b h)
    (no_blank b h) (and_left (b == 40) (slice_index bs 0 == 42)
    (other b 40 (λ e. absurd (omega arith))))
