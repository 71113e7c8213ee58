-- A text is cut into gaps and lexemes.
use Rattle.std.proofs.Common.{◌≡◌, ℕ, zero, suc, ◌+◌, ◌-◌, ◌<◌, ◌≤◌, ◌⊎◌, inl, inr, Bool, true, false, List, [], ◌∷◌, ◌++◌, length, get_or, take, drop, refl, sym, ap, ◌∙◌, subst, arith, append_assoc}
use Rattle.std.specs.Prelude.{Option, Some, None, slice_index, ◌==◌, ◌&&◌, ◌||◌, not, if◌then◌else◌}
use Rattle.std.specs.List.{position_or_len}
use Rattle.std.proofs.lemmas.Bool.{cases_lt, and_left}
use Rattle.std.proofs.lemmas.List.{length-take, length-drop, length-append, get_or-take, get_or-drop, get_or_append_left, take-append-drop, take_all, drop_all}
use Rattle.std.proofs.lemmas.List.Sums.{fails_before_first, passes_at_first}
use Rattle.text_values.specs.Letters.{is_letter}
use Rattle.text_values.specs.Layout.{is_line_end, is_quote, quoted_from, comment_of}
use Rattle.text_laws.specs.Comments.{LacksQuote, begins_comment, BeginsWithComment}
use Rattle.text_laws.proofs.Nesting as nesting
use Rattle.cat_tokens.specs.declared.rule.CatRule.TheVariants as rules
use Rattle.cat_tokens.specs.declared.token.Mark.TheVariants.{Inverse}
use Rattle.cat_tokens.specs.declared.token.Token.{Token}
use Rattle.cat_tokens.specs.declared.token.Token.TheVariants as tokens
use Rattle.cat_tokens.specs.declared.lexer.NextLexeme.{NextLexeme}
use Rattle.cat_tokens.specs.declared.lexer.NextLexeme.TheVariants as lexemes
use Rattle.cat_tokens.specs.Tokens.{TokenAt}
use Rattle.cat_tokens.specs.Words.{word_token}
use Rattle.cat_tokens.specs.Lexer.{is_layout, is_name_byte, ends_name, comment_lexeme, quoted_lexeme, word_lexeme, sign_token, sign_lexeme, first_model_lexeme, after_lexeme, tokens_from, model_lexing}
use Rattle.cat_tokens.proofs.Lexed.{tokens_skip}
use Rattle.cat_laws.specs.Tokens.{IsWord, is_sign, Spells, Word, String, Sign, Inversion, Plusses, begins_line_comment, begins_gap, IsModelGap, Blank, Comment, Line, IsLongest, SpellsNone, IsModelLexeme, Spelled, NoToken, OpenComment, OpenString, ModelPiece, Gap, Lexeme, model_text_of, ArePieces, tokens_at, IsModelCut, AreModelRising}
use Rattle.text_laws.proofs.Runs.{other, clash, opposite, equals, less, cons_of, next_of, pos_some, pos_le, two_kept, inside_fits, lacks_before, string_text, tested}
use Rattle.cat_laws.proofs.Named.{first_of, each_of, letter_in_name}

-- ---- the longest piece that spells a token

-- whatever spells a token is this short, where a text begins with a byte and goes on with these
record Bounds (n b : ℕ) (bs : List ℕ) : Type 0 where
  word : is_letter b ≡ true → (longer others : List ℕ) → IsWord longer → longer ++ others ≡ b ∷ bs
      → length longer ≤ n
  string : b ≡ 34 → (inside others : List ℕ) → LacksQuote inside → inside ++ 34 ∷ others ≡ bs
      → length inside + 2 ≤ n
  sign : is_sign b ≡ true → 1 ≤ n
  inversion : b ≡ 94 → slice_index bs 0 ≡ 45 → slice_index bs 1 ≡ 49 → 3 ≤ n
  plusses : b ≡ 43 → slice_index bs 0 ≡ 43 → 2 ≤ n

word_bound : (n b : ℕ) (bs : List ℕ) → Bounds n b bs → (longer others : List ℕ)
    → longer ++ others ≡ b ∷ bs → IsWord longer → length longer ≤ n
word_bound n b bs h [] others e w = let bad : false ≡ true = w.first in absurd cc
word_bound n b bs h (c ∷ cs) others e w =
    let same : c ≡ b = cc in
    h.word (ap is_letter (sym same) ∙ w.first) (c ∷ cs) others w e

string_bound : (n b : ℕ) (bs : List ℕ) → Bounds n b bs → (inside others : List ℕ)
    → (34 ∷ (inside ++ 34 ∷ [])) ++ others ≡ b ∷ bs → LacksQuote inside → length inside + 2 ≤ n
string_bound n b bs h inside others e lacks =
    let first : b ≡ 34 = cc in
    let more : (inside ++ 34 ∷ []) ++ others ≡ bs = cc in
    h.string first inside others lacks (sym (append_assoc inside (34 ∷ []) others) ∙ more)

sign_bound : (n b : ℕ) (bs : List ℕ) → Bounds n b bs → (c : ℕ) (others : List ℕ)
    → c ∷ others ≡ b ∷ bs → is_sign c ≡ true → 1 ≤ n
sign_bound n b bs h c others e s =
    let same : c ≡ b = cc in
    h.sign (ap is_sign (sym same) ∙ s)

inversion_bound : (n b : ℕ) (bs : List ℕ) → Bounds n b bs → (others : List ℕ)
    → 94 ∷ 45 ∷ 49 ∷ others ≡ b ∷ bs → 3 ≤ n
inversion_bound n b bs h others e =
    let first : b ≡ 94 = cc in
    let more : 45 ∷ 49 ∷ others ≡ bs = cc in
    h.inversion first (ap (λ (l : List ℕ). slice_index l 0) (sym more))
    (ap (λ (l : List ℕ). slice_index l 1) (sym more))

plusses_bound : (n b : ℕ) (bs : List ℕ) → Bounds n b bs → (others : List ℕ)
    → 43 ∷ 43 ∷ others ≡ b ∷ bs → 2 ≤ n
plusses_bound n b bs h others e =
    let first : b ≡ 43 = cc in
    let more : 43 ∷ others ≡ bs = cc in
    h.plusses first (ap (λ (l : List ℕ). slice_index l 0) (sym more))

bound : (n b : ℕ) (bs : List ℕ) → Bounds n b bs → (longer others : List ℕ) (t : Token)
    → longer ++ others ≡ b ∷ bs → Spells longer t → length longer ≤ n
bound n b bs h longer others t e (Word w k) = word_bound n b bs h longer others e w
bound n b bs h longer others t e (String inside lacks s k) =
    let l = ap length s in
    let m = length-append inside (34 ∷ []) in
    let x = string_bound n b bs h inside others (ap (λ (l : List ℕ). l ++ others) (sym s) ∙ e) lacks in
    omega arith
bound n b bs h longer others t e (Sign c sign s k) =
    let l = ap length s in
    let x = sign_bound n b bs h c others (ap (λ (l : List ℕ). l ++ others) (sym s) ∙ e) sign in
    omega arith
bound n b bs h longer others t e (Inversion s k) =
    let l : length longer ≡ 3 = ap length s in
    let x = inversion_bound n b bs h others (ap (λ (l : List ℕ). l ++ others) (sym s) ∙ e) in
    omega arith
bound n b bs h longer others t e (Plusses s k) =
    let l : length longer ≡ 2 = ap length s in
    let x = plusses_bound n b bs h others (ap (λ (l : List ℕ). l ++ others) (sym s) ∙ e) in
    omega arith

-- what spells a token has a byte
some_byte : (s : List ℕ) (t : Token) → Spells s t → 0 < length s
some_byte [] t (Word w k) = let bad : false ≡ true = w.first in absurd cc
some_byte [] t (String inside lacks s k) = absurd cc
some_byte [] t (Sign b sign s k) = absurd cc
some_byte [] t (Inversion s k) = absurd cc
some_byte [] t (Plusses s k) = absurd cc
some_byte (b ∷ bs) t h = omega arith

-- ---- what a text begins with

abbrev IsPiece : List ℕ → NextLexeme → Type 0
IsPiece text (lexemes.Layout n) = (0 < n) × (n ≤ length text) × IsModelGap (take n text) (drop n text)
IsPiece text (lexemes.Lexeme t n) =
    (0 < n) × (n ≤ length text) × IsModelLexeme t (take n text) (drop n text)

longest : (n b : ℕ) (bs : List ℕ) → n ≤ length (b ∷ bs) → Bounds n b bs
    → IsLongest (take n (b ∷ bs)) (drop n (b ∷ bs))
longest n b bs le h longer others t e s =
    let l = length-take n (b ∷ bs) in
    let x = bound n b bs h longer others t (e ∙ take-append-drop n (b ∷ bs)) s in
    omega arith

none_spelled : (b : ℕ) (bs : List ℕ) → Bounds 0 b bs → SpellsNone (b ∷ bs)
none_spelled b bs h longer others t e s =
    let x = bound 0 b bs h longer others t e s in
    let y = some_byte longer t s in
    absurd (omega arith)

spelled : (n b : ℕ) (bs : List ℕ) (t : Token) → 0 < n → n ≤ length (b ∷ bs)
    → begins_gap (b ∷ bs) ≡ false → Spells (take n (b ∷ bs)) t → Bounds n b bs
    → IsPiece (b ∷ bs) (lexemes.Lexeme t n)
spelled n b bs t some le gap s h =
    (some, le, Spelled (ap begins_gap (take-append-drop n (b ∷ bs)) ∙ gap) s (longest n b bs le h))

-- a word

no_gap : (b : ℕ) (bs : List ℕ) → is_layout b ≡ false → (b == 40 && slice_index bs 0 == 42) ≡ false
    → (b == 47 && slice_index bs 0 == 47) ≡ false → begins_gap (b ∷ bs) ≡ false
no_gap b bs layout comment line =
    ap (λ (x : Bool). x || (begins_comment (b ∷ bs) || begins_line_comment (b ∷ bs))) layout
    ∙ ap (λ (x : Bool). x || begins_line_comment (b ∷ bs)) comment ∙ line

letter_is_no : (b c : ℕ) → is_letter b ≡ true → is_letter c ≡ false → b ≡ c → ⊥
letter_is_no b c h k e =
    let bad : true ≡ false = sym h ∙ ap is_letter e ∙ k in
    absurd cc

two_equal : (a x : ℕ) → a ≡ 43 → x ≡ 43 → (a == 43 && x == 43) ≡ true
two_equal a x e f = ap (λ (y : ℕ). y == 43 && x == 43) e ∙ ap (λ (y : ℕ). 43 == 43 && y == 43) f

three_equal : (a x y : ℕ) → a ≡ 94 → x ≡ 45 → y ≡ 49 → (a == 94 && x == 45 && y == 49) ≡ true
three_equal a x y e f g =
    ap (λ (z : ℕ). z == 94 && x == 45 && y == 49) e
    ∙ ap (λ (z : ℕ). 94 == 94 && z == 45 && y == 49) f
    ∙ ap (λ (z : ℕ). 94 == 94 && 45 == 45 && z == 49) g

three_parts : (x y z : Bool) → (x && y && z) ≡ true → (x ≡ true) × (y ≡ true) × (z ≡ true)
three_parts true true true h = (refl, refl, refl)
three_parts true true false h = absurd cc
three_parts true false z h = absurd cc
three_parts false y z h = absurd cc

pub three_bytes : (b : ℕ) (bs : List ℕ)
    → (b == 94 && slice_index bs 0 == 45 && slice_index bs 1 == 49) ≡ true
    → b ∷ bs ≡ 94 ∷ 45 ∷ 49 ∷ drop 1 (drop 1 bs)
three_bytes b bs h =
    let x = three_parts (b == 94) (slice_index bs 0 == 45) (slice_index bs 1 == 49) h in
    let second = cons_of 44 bs (nesting.equal (slice_index bs 0) 45 x.1) in
    let third = cons_of 48 (drop 1 bs) (sym (next_of bs) ∙ nesting.equal (slice_index bs 1) 49 x.2) in
    ap (λ (k : ℕ). k ∷ bs) (nesting.equal b 94 x.0)
    ∙ ap (λ (xs : List ℕ). 94 ∷ xs) (second ∙ ap (λ (xs : List ℕ). 45 ∷ xs) third)

word_fits : (text longer others : List ℕ) → IsWord longer → longer ++ others ≡ text
    → length longer ≤ position_or_len ends_name text
word_fits text longer others w e =
    by_size (cases_lt (position_or_len ends_name text) (length longer))
  where
    by_size : (position_or_len ends_name text < length longer)
        ⊎ (length longer ≤ position_or_len ends_name text)
        → length longer ≤ position_or_len ends_name text
    by_size (inr le) = le
    by_size (inl lt) =
        let n = position_or_len ends_name text in
        let l = length-append longer others in
        let same = ap length e in
        let ends : ends_name (get_or text n 0) ≡ true = passes_at_first ends_name text 0 (omega arith) in
        let goes_on : is_name_byte (get_or text n 0) ≡ true = ap (λ (xs : List ℕ). is_name_byte (get_or xs n 0)) (sym e) ∙ ap is_name_byte (get_or_append_left longer others 0 n lt) ∙ w.each n lt in
        absurd (clash (is_name_byte (get_or text n 0)) goes_on ends)

word_piece : (b : ℕ) (bs : List ℕ) → is_layout b ≡ false → is_letter b ≡ true
    → IsPiece (b ∷ bs) (word_lexeme (b ∷ bs) (position_or_len ends_name (b ∷ bs)))
word_piece b bs layout letter =
    let n = position_or_len ends_name (b ∷ bs) in
    let some : 0 < n = pos_some ends_name b bs (ap not (letter_in_name b letter)) in
    spelled n b bs (word_token (take n (b ∷ bs))) some (pos_le ends_name (b ∷ bs))
    (no_gap b bs layout (and_left _ _ (other b 40 (letter_is_no b 40 letter refl)))
    (and_left _ _ (other b 47 (letter_is_no b 47 letter refl))))
    (Word (record { first = ap is_letter (first_of b bs letter) ∙ letter; each = each_of (b ∷ bs) })
    refl)
    (record {
      word = λ _ longer others w e. word_fits (b ∷ bs) longer others w e;
      string = λ is inside others lacks e. absurd (letter_is_no b 34 letter refl is);
      sign = λ _. omega arith;
      inversion = λ is _ _. absurd (letter_is_no b 94 letter refl is);
      plusses = λ is _. absurd (letter_is_no b 43 letter refl is);
    })

-- gaps

blank_piece : (b : ℕ) (bs : List ℕ) → is_layout b ≡ true → IsPiece (b ∷ bs) (lexemes.Layout 1)
blank_piece b bs layout = (omega arith, omega arith, Blank b layout refl)

no_line_end : (k : ℕ) → k ≡ 47 → is_line_end k ≡ false
no_line_end k e = ap is_line_end e

line_piece : (b : ℕ) (bs : List ℕ) → (b == 47 && slice_index bs 0 == 47) ≡ true
    → IsPiece (b ∷ bs) (lexemes.Layout (position_or_len is_line_end (b ∷ bs)))
line_piece b bs line = (
  some,
  pos_le is_line_end (b ∷ bs),
  Line (two_kept 47 47 (position_or_len is_line_end (b ∷ bs)) b bs two line) each ends,
)
  where
    are : (b ≡ 47) × (bs ≡ 47 ∷ drop 1 bs)
    are = nesting.two_bytes 47 46 b bs line

    some : 0 < position_or_len is_line_end (b ∷ bs)
    some = pos_some is_line_end b bs (no_line_end b are.0)

    second : is_line_end (get_or (b ∷ bs) 1 0) ≡ false
    second = no_line_end (slice_index bs 0) (ap (λ (l : List ℕ). slice_index l 0) are.1)

    by_size : (1 < position_or_len is_line_end (b ∷ bs))
        ⊎ (position_or_len is_line_end (b ∷ bs) ≤ 1) → 1 < position_or_len is_line_end (b ∷ bs)
    by_size (inl lt) = lt
    by_size (inr le) =
        let l = ap length are.1 in
        let more = some in
        let one : position_or_len is_line_end (b ∷ bs) ≡ 1 = omega arith in
        let passes : is_line_end (get_or (b ∷ bs) (position_or_len is_line_end (b ∷ bs)) 0) ≡ true = passes_at_first is_line_end (b ∷ bs) 0 (omega arith) in
        absurd (opposite (is_line_end (get_or (b ∷ bs) 1 0))
        (ap (λ (k : ℕ). is_line_end (get_or (b ∷ bs) k 0)) (sym one) ∙ passes) second)

    two : 1 < position_or_len is_line_end (b ∷ bs)
    two = by_size (cases_lt 1 (position_or_len is_line_end (b ∷ bs)))

    each : (k : ℕ) → k < length (take (position_or_len is_line_end (b ∷ bs)) (b ∷ bs))
        → is_line_end (slice_index (take (position_or_len is_line_end (b ∷ bs)) (b ∷ bs)) k) ≡ false
    each k lt =
        let l = length-take (position_or_len is_line_end (b ∷ bs)) (b ∷ bs) in
        ap is_line_end (get_or-take (position_or_len is_line_end (b ∷ bs)) (b ∷ bs) k 0
        (omega arith)) ∙ fails_before_first is_line_end (b ∷ bs) k 0 (omega arith)

    ends : 0 < length (drop (position_or_len is_line_end (b ∷ bs)) (b ∷ bs))
        → is_line_end (slice_index (drop (position_or_len is_line_end (b ∷ bs)) (b ∷ bs)) 0) ≡ true
    ends lt =
        let l = length-drop (position_or_len is_line_end (b ∷ bs)) (b ∷ bs) in
        ap is_line_end (get_or-drop (position_or_len is_line_end (b ∷ bs)) (b ∷ bs) 0 0
        ∙ ap (λ (k : ℕ). get_or (b ∷ bs) k 0) (omega arith))
        ∙ passes_at_first is_line_end (b ∷ bs) 0 (omega arith)

comment_piece : (b : ℕ) (bs : List ℕ) → (b == 40 && slice_index bs 0 == 42) ≡ true → (o : Option ℕ)
    → comment_of (b ∷ bs) ≡ o → IsPiece (b ∷ bs) (comment_lexeme (length (b ∷ bs)) o)
comment_piece b bs begins (Some n) e =
    let c = nesting.found (b ∷ bs) n begins e in
    let l = length-take n (b ∷ bs) in
    let long = c.long in
    let same : length (take n (b ∷ bs)) ≡ n = omega arith in (
      nesting.some_bytes (b ∷ bs) n c,
      omega arith,
      Comment (subst (BeginsWithComment (take n (b ∷ bs) ++ drop n (b ∷ bs))) (sym same)
          (subst (λ (xs : List ℕ). BeginsWithComment xs n)
          (sym (take-append-drop n (b ∷ bs))) c)),
    )
comment_piece b bs begins None e =
    let all = take_all (length (b ∷ bs)) (b ∷ bs) (omega arith) in (
      omega arith,
      omega arith,
      OpenComment (ap begins_comment all ∙ begins)
          (λ n c. nesting.unended (b ∷ bs) n e
          (subst (λ (xs : List ℕ). BeginsWithComment xs n) all c))
          (drop_all (length (b ∷ bs)) (b ∷ bs) (omega arith)) refl,
    )

-- strings

string_piece : (bs : List ℕ) → IsPiece (34 ∷ bs) (quoted_lexeme (34 ∷ bs) (quoted_from (34 ∷ bs)))
string_piece bs = by_end (position_or_len is_quote bs == length bs) refl
  where
    some_piece : position_or_len is_quote bs < length bs
        → IsPiece (34 ∷ bs) (quoted_lexeme (34 ∷ bs) (Some (position_or_len is_quote bs + 2)))
    some_piece lt =
        let two : position_or_len is_quote bs + 2 - 2 ≡ position_or_len is_quote bs = omega arith in
        spelled (position_or_len is_quote bs + 2) 34 bs
        (tokens.Quoted (take (position_or_len is_quote bs + 2 - 2) bs)) (omega arith)
        (omega arith) refl
        (String (take (position_or_len is_quote bs) bs) (lacks_before bs) (string_text bs lt)
        (ap (λ (n : ℕ). tokens.Quoted (take n bs)) two))
        (record {
          word = λ letter longer others w e. absurd cc;
          string =
              λ _ inside others lacks e.
              let fit = inside_fits bs inside others lacks e lt in omega arith;
          sign = λ _. omega arith;
          inversion = λ is _ _. absurd (omega arith);
          plusses = λ is _. absurd (omega arith);
        })

    by_end : (x : Bool) → (position_or_len is_quote bs == length bs) ≡ x
        → IsPiece (34 ∷ bs) (quoted_lexeme (34 ∷ bs)
        (if x then None else Some (position_or_len is_quote bs + 2)))
    by_end true e =
        let same = nesting.equal (position_or_len is_quote bs) (length bs) e in (
          omega arith,
          omega arith,
          OpenString bs (λ k lt. fails_before_first is_quote bs k 0 (omega arith))
              (take_all (length (34 ∷ bs)) (34 ∷ bs) (omega arith))
              (drop_all (length (34 ∷ bs)) (34 ∷ bs) (omega arith)) refl,
        )
    by_end false e =
        let le = pos_le is_quote bs in
        some_piece (less (position_or_len is_quote bs) (length bs) le e)

-- signs

chain : (x r : Bool) (t u : Token) → (x || r) ≡ false → (r ≡ false → u ≡ tokens.Broken rules.Token)
    → (if x then t else u) ≡ tokens.Broken rules.Token
chain true r t u h f = absurd cc
chain false r t u h f = f h

last_link : (x : Bool) (t : Token) → x ≡ false
    → (if x then t else tokens.Broken rules.Token) ≡ tokens.Broken rules.Token
last_link x t h = ap (λ (y : Bool). if y then t else tokens.Broken rules.Token) h

pub not_sign : (b : ℕ) → is_sign b ≡ false → sign_token b ≡ tokens.Broken rules.Token
unfolding sign_token
not_sign b h =
    chain (b == 124) _ _ _ h (λ h. chain (b == 59) _ _ _ h (λ h. chain (b == 92) _ _ _ h (λ h. chain
    (b == 38) _ _ _ h (λ h. chain (b == 43) _ _ _ h (λ h.
    chain (b == 63) _ _ _ h (λ h. chain (b == 42) _ _ _ h (λ h. chain (b == 126) _ _ _ h (λ h. chain
    (b == 40) _ _ _ h (λ h. chain (b == 41) _ _ _ h (λ h.
    chain (b == 91) _ _ _ h (λ h. chain (b == 93) _ _ _ h (λ h. chain (b == 123) _ _ _ h (λ h. chain
    (b == 125) _ _ _ h (λ h. chain (b == 95) _ _ _ h (λ h.
    chain (b == 48) _ _ _ h (λ h.
    chain (b == 44) _ _ _ h (λ h. last_link (b == 61) _ h)))))))))))))))))

module _ (b : ℕ) (bs : List ℕ) (layout : is_layout b ≡ false) (letter : is_letter b ≡ false)
    (line : (b == 47 && slice_index bs 0 == 47) ≡ false)
    (comment : (b == 40 && slice_index bs 0 == 42) ≡ false) (quote : (b == 34) ≡ false) where
  gap : begins_gap (b ∷ bs) ≡ false
  gap = no_gap b bs layout comment line

  is_no_quote : b ≡ 34 → ⊥
  is_no_quote e = opposite (b == 34) (equals b 34 e) quote

  plus_piece : (b == 43 && slice_index bs 0 == 43) ≡ true
      → IsPiece (b ∷ bs) (lexemes.Lexeme (tokens.Broken rules.Unsupported) 2)
  plus_piece plus =
      let are = nesting.two_bytes 43 42 b bs plus in
      let l = ap length are.1 in
      let first = are.0 in
      let same : b ∷ bs ≡ 43 ∷ 43 ∷ drop 1 bs = ap (λ (x : ℕ). x ∷ bs) are.0 ∙ ap (λ (xs : List ℕ). 43 ∷ xs) are.1 in
      spelled 2 b bs (tokens.Broken rules.Unsupported) (omega arith) (omega arith) gap
      (Plusses (ap (take 2) same) refl) (record {
        word = λ is longer others w e. absurd (opposite (is_letter b) is letter);
        string = λ is inside others lacks e. absurd (is_no_quote is);
        sign = λ _. omega arith;
        inversion = λ is _ _. absurd (omega arith);
        plusses = λ _ _. omega arith;
      })

  inverse_piece : (b == 94 && slice_index bs 0 == 45 && slice_index bs 1 == 49) ≡ true
      → IsPiece (b ∷ bs) (lexemes.Lexeme (tokens.Mark Inverse) 3)
  inverse_piece inverse =
      let are = three_bytes b bs inverse in
      let l = ap length are in
      let first : b ≡ 94 = ap (λ (xs : List ℕ). slice_index xs 0) are in
      spelled 3 b bs (tokens.Mark Inverse) (omega arith) (omega arith) gap
      (Inversion (ap (take 3) are) refl) (record {
        word = λ is longer others w e. absurd (opposite (is_letter b) is letter);
        string = λ is inside others lacks e. absurd (is_no_quote is);
        sign = λ _. omega arith;
        inversion = λ _ _ _. omega arith;
        plusses = λ is _. absurd (omega arith);
      })

  module _ (plus : (b == 43 && slice_index bs 0 == 43) ≡ false)
      (inverse : (b == 94 && slice_index bs 0 == 45 && slice_index bs 1 == 49) ≡ false) where
    bounds : (n : ℕ) → (is_sign b ≡ true → 1 ≤ n) → Bounds n b bs
    bounds n one = record {
      word = λ is longer others w e. absurd (opposite (is_letter b) is letter);
      string = λ is inside others lacks e. absurd (is_no_quote is);
      sign = one;
      inversion =
          λ x y z.
          absurd (opposite _ (three_equal b (slice_index bs 0) (slice_index bs 1) x y z) inverse);
      plusses = λ x y. absurd (opposite _ (two_equal b (slice_index bs 0) x y) plus);
    }

    byte_piece : (x : Bool) → is_sign b ≡ x → IsPiece (b ∷ bs) (lexemes.Lexeme (sign_token b) 1)
    byte_piece true sign =
        spelled 1 b bs (sign_token b) (omega arith) (omega arith) gap (Sign b sign refl refl)
        (bounds 1 (λ _. omega arith))
    byte_piece false sign = (
      omega arith,
      omega arith,
      NoToken b quote refl gap
          (none_spelled b bs (bounds 0 (λ is. absurd (opposite (is_sign b) is sign))))
          (not_sign b sign),
    )

  sign_piece : IsPiece (b ∷ bs) (sign_lexeme (b ∷ bs))
  sign_piece =
      tested (IsPiece (b ∷ bs)) (b == 43 && slice_index bs 0 == 43) _ _ plus_piece (λ plus.
      tested (IsPiece (b ∷ bs)) (b == 94 && slice_index bs 0 == 45 && slice_index bs 1 == 49) _ _
      inverse_piece (λ inverse. byte_piece plus inverse (is_sign b) refl))

quote_piece : (b : ℕ) (bs : List ℕ) → (b == 34) ≡ true
    → IsPiece (b ∷ bs) (quoted_lexeme (b ∷ bs) (quoted_from (b ∷ bs)))
quote_piece b bs e =
    subst (λ (x : ℕ). IsPiece (x ∷ bs) (quoted_lexeme (x ∷ bs) (quoted_from (x ∷ bs))))
    (sym (nesting.equal b 34 e)) (string_piece bs)

first_piece : (b : ℕ) (bs : List ℕ) → IsPiece (b ∷ bs) (first_model_lexeme (b ∷ bs))
unfolding first_model_lexeme
first_piece b bs =
    tested (IsPiece (b ∷ bs)) (is_layout b) _ _ (blank_piece b bs) (λ layout.
    tested (IsPiece (b ∷ bs)) (is_letter b) _ _ (word_piece b bs layout) (λ letter.
    tested (IsPiece (b ∷ bs)) (b == 47 && slice_index bs 0 == 47) _ _ (line_piece b bs) (λ line.
    tested (IsPiece (b ∷ bs)) (b == 40 && slice_index bs 0 == 42) _ _
    (λ comment. comment_piece b bs comment (comment_of (b ∷ bs)) refl) (λ comment.
    tested (IsPiece (b ∷ bs)) (b == 34) _ _ (quote_piece b bs) (λ quote.
    sign_piece b bs layout letter line comment quote)))))

-- ---- all pieces

record CutAt (n : ℕ) (bs : List ℕ) (ps : List TokenAt) : Type 0 where
  pieces : List ModelPiece
  fine : ArePieces pieces
  whole : model_text_of pieces ≡ bs
  tokens : tokens_at n pieces ≡ ps

pub skipped : (j n : ℕ) (bs : List ℕ) → j ≤ length bs
    → tokens_from (suc j - 1) (n + 1) bs ≡ tokens_from 0 (n + suc j) (drop j bs)
skipped j n bs le =
    ap (λ (k : ℕ). tokens_from k (n + 1) bs) (let e : suc j - 1 ≡ j = omega arith in e)
    ∙ tokens_skip j (n + 1) bs le
    ∙ ap (λ (k : ℕ). tokens_from 0 k (drop j bs))
    (let e : n + 1 + j ≡ n + suc j = omega arith in e)

after_piece : (n b : ℕ) (bs : List ℕ) (f : NextLexeme) → IsPiece (b ∷ bs) f
    → ((k : ℕ) (xs : List ℕ) → length xs ≤ length bs → CutAt k xs (tokens_from 0 k xs))
    → CutAt n (b ∷ bs) (after_lexeme n f (λ skip. tokens_from skip (n + 1) bs))
after_piece n b bs (lexemes.Layout zero) h ih = let bad = h.0 in absurd (omega arith)
after_piece n b bs (lexemes.Lexeme t zero) h ih = let bad = h.0 in absurd (omega arith)
after_piece n b bs (lexemes.Layout (suc j)) h ih =
    let le = h.1 in
    let l = length-drop j bs in
    let m = length-take (suc j) (b ∷ bs) in
    let size : n + length (take (suc j) (b ∷ bs)) ≡ n + suc j = omega arith in
    let c = ih (n + suc j) (drop j bs) (omega arith) in
    record {
      pieces = Gap (take (suc j) (b ∷ bs)) ∷ c.pieces;
      fine = (subst (IsModelGap (take (suc j) (b ∷ bs))) (sym c.whole) h.2, c.fine);
      whole =
          ap (λ (xs : List ℕ). take (suc j) (b ∷ bs) ++ xs) c.whole
          ∙ take-append-drop (suc j) (b ∷ bs);
      tokens =
          ap (λ (k : ℕ). tokens_at k c.pieces) size ∙ c.tokens ∙ sym (skipped j n bs (omega arith));
    }
after_piece n b bs (lexemes.Lexeme t (suc j)) h ih =
    let le = h.1 in
    let l = length-drop j bs in
    let m = length-take (suc j) (b ∷ bs) in
    let size : n + length (take (suc j) (b ∷ bs)) ≡ n + suc j = omega arith in
    let c = ih (n + suc j) (drop j bs) (omega arith) in
    record {
      pieces = Lexeme t (take (suc j) (b ∷ bs)) ∷ c.pieces;
      fine = (subst (IsModelLexeme t (take (suc j) (b ∷ bs))) (sym c.whole) h.2, c.fine);
      whole =
          ap (λ (xs : List ℕ). take (suc j) (b ∷ bs) ++ xs) c.whole
          ∙ take-append-drop (suc j) (b ∷ bs);
      tokens =
          ap (λ (ps : List TokenAt). record { token = t; offset = n } ∷ ps) (ap
          (λ (k : ℕ). tokens_at k c.pieces) size ∙ c.tokens
          ∙ sym (skipped j n bs (omega arith)));
    }

cut_at : (most n : ℕ) (bs : List ℕ) → length bs ≤ most → CutAt n bs (tokens_from 0 n bs)
unfolding tokens_from
cut_at most n [] le = record { pieces = []; fine = tt; whole = refl; tokens = refl }
cut_at zero n (b ∷ bs) le = absurd (omega arith)
cut_at (suc most) n (b ∷ bs) le =
    after_piece n b bs (first_model_lexeme (b ∷ bs)) (first_piece b bs)
    (λ k xs short. cut_at most k xs (omega arith))

pub is_cut : (bytes : List ℕ) → IsModelCut bytes (model_lexing bytes)
is_cut bytes =
    let c = cut_at (length bytes) 0 bytes (omega arith) in
    record { pieces = c.pieces; fine = c.fine; whole = c.whole; tokens = c.tokens }

-- ---- rising

pub lexeme_bytes : (t : Token) (s rest : List ℕ) → IsModelLexeme t s rest → 0 < length s
lexeme_bytes t s rest (Spelled gap spells longest) = some_byte s t spells
lexeme_bytes t s rest (NoToken b quote e gap none is) = let l = ap length e in omega arith
lexeme_bytes t [] rest (OpenComment begins none e is) = absurd cc
lexeme_bytes t (b ∷ bs) rest (OpenComment begins none e is) = omega arith
lexeme_bytes t s rest (OpenString inside lacks e end is) = let l = ap length e in omega arith

rise : (m n : ℕ) (ps : List ModelPiece) → m ≤ n → ArePieces ps → AreModelRising m (tokens_at n ps)
rise m n [] le h = (le, tt)
rise m n (Gap s ∷ ps) le h = rise m (n + length s) ps (omega arith) h.1
rise m n (Lexeme t s ∷ ps) le h =
    let some = lexeme_bytes t s (model_text_of ps) h.0 in
    (le, rise (n + 1) (n + length s) ps (omega arith) h.1)

pub is_rising : (bytes : List ℕ) → AreModelRising 0 (model_lexing bytes)
is_rising bytes =
    let c = is_cut bytes in
    subst (AreModelRising 0) c.tokens (rise 0 0 c.pieces (omega arith) c.fine)
