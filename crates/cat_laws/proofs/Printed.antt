-- What is printed is read as the same items.
use Rattle.std.proofs.Common.{◌≡◌, ℕ, zero, suc, ◌+◌, ◌-◌, ◌<◌, ◌≤◌, ◌≢◌, Bool, true, false, List, [], ◌∷◌, ◌++◌, length, take, drop, refl, sym, ap, ◌∙◌, subst, arith, append_assoc}
use Rattle.std.specs.Prelude.{map, Option, Some, None, codes, slice_index, ◌==◌, not, if◌then◌else◌}
use Rattle.std.specs.Str.{bytes_eq}
use Rattle.std.specs.List.{position_or_len}
use Rattle.std.proofs.lemmas.Bool.Decides.{nat_tests}
use Rattle.std.proofs.lemmas.List.{append-nil, length-append, length-map, take_at, drop_at, get_or_append_left}
use Rattle.std.proofs.lemmas.List.Sums.{position_or_len_is}
use Rattle.std.proofs.lemmas.Slice.Eq.{bytes_eq-Decides}
use Rattle.text_values.specs.Layout.{is_quote, comment_of}
use Rattle.cat_tokens.specs.declared.token.Token.{Token}
use Rattle.cat_tokens.specs.declared.token.Token.TheVariants as tokens
use Rattle.cat_tokens.specs.declared.token.Sign.TheVariants.{Bar, Semicolon, Backslash, Ampersand}
use Rattle.cat_tokens.specs.declared.token.Mark.TheVariants.{Plus, Question, Inverse}
use Rattle.cat_tokens.specs.declared.rule.CatRule.TheVariants.{Unsupported}
use Rattle.cat_tokens.specs.declared.lexer.NextLexeme.{NextLexeme}
use Rattle.cat_tokens.specs.declared.lexer.NextLexeme.TheVariants.{Layout, Lexeme}
use Rattle.text_values.specs.declared.model.CheckWord.{CheckWord}
use Rattle.text_values.specs.declared.model.CheckWord.TheVariants.{Acyclic, Irreflexive, Empty}
use Rattle.text_values.specs.declared.model.Infix.{Infix}
use Rattle.text_values.specs.declared.model.Infix.TheVariants.{Union, Sequence, Difference, Intersection, Product}
use Rattle.text_values.specs.declared.model.Postfix.{Postfix}
use Rattle.text_values.specs.declared.model.Postfix.TheVariants as postfix
use Rattle.text_values.specs.ModelValue as value
use Rattle.text_values.specs.ModelValue.{Term, Terms, Atom, AllEvents, EmptyRelation, EmptySet, Join, Mark, Not, On, Apply, NoTerm, OneMore, Checked, Clause, Binding, Checking, Flagging, Showing, Including}
use Rattle.cat_tokens.specs.Words.{item_word, part_word, word_token}
use Rattle.cat_tokens.specs.Lexer.{is_layout, ends_name, sign_token, word_lexeme, comment_lexeme, quoted_lexeme, first_model_lexeme, after_lexeme, tokens_from}
use Rattle.text_values.specs.Letters.{is_letter}
use Rattle.cat_tokens.specs.Tokens.{TokenAt, model_tokens_of}
use Rattle.cat_grammar.specs.Grammar.{Tree, infix_token, postfix_token, spelled, spelled_arguments, show_token, spelled_rec, spelled_tilde, spelled_label, spelled_bound, spelled_group, spelled_parameters, spelled_check, spelled_one, spelled_shown, spelled_item, spelled_items, Limits, model_limits, Means, NoTitle, has_no_effect}
use Rattle.cat_grammar.specs.declared.form.Form.TheVariants as forms
use Rattle.cat_printing.specs.Printing.{is_binary, is_compound, infix_text, postfix_text, printed_term, printed_terms, label_text, optional_label, tilde_text, word_text, check_text, recursion_text, binding_text, show_text, shown_text, quote, printed_item, printed_model}
use Rattle.text_values.specs.Joined.{joined, bracketed}
use Rattle.cat_laws.specs.Written as written
use Rattle.cat_laws.specs.Written.{IsName, IsTerm, AreTerms, AreNames, IsOptionalLabel, AreBindings, IsWritable, AreWritable, KeepsLimits, KeepLimits, IsTextOfItem, IsTextOfModel, IsItemWithinLimits, IsModelWithinLimits, ReadsItem, ReadsModel}
use Rattle.cat_laws.proofs.PrintedTrees.{grouped, tree_of, trees_of, bound_of, check_of, shown_of, item_of, items_back, items_fit, enough, is_enough, enough_items}
use Rattle.text_laws.proofs.Runs.{seam}
use Rattle.cat_tokens.proofs.Lexed.{tokens_skip}

-- the tokens of a text, without their places
abbrev pub read : List ℕ → List Token
read bs = model_tokens_of (tokens_from 0 0 bs)

after_free : (p q : ℕ) (f : NextLexeme) (later other : ℕ → List TokenAt)
    → ((k : ℕ) → model_tokens_of (later k) ≡ model_tokens_of (other k))
    → model_tokens_of (after_lexeme p f later) ≡ model_tokens_of (after_lexeme q f other)
after_free p q (Layout n) later other h = h (n - 1)
after_free p q (Lexeme t n) later other h = ap (λ (ts : List Token). t ∷ ts) (h (n - 1))

-- the places do not bear on the tokens
place_free : (s p q : ℕ) (bs : List ℕ)
    → model_tokens_of (tokens_from s p bs) ≡ model_tokens_of (tokens_from s q bs)
unfolding tokens_from
place_free zero p q [] = refl
place_free (suc s) p q [] = refl
place_free (suc s) p q (b ∷ bs) = place_free s (p + 1) (q + 1) bs
place_free zero p q (b ∷ bs) =
    after_free p q (first_model_lexeme (b ∷ bs)) (λ k. tokens_from k (p + 1) bs) (λ k. tokens_from k (q + 1) bs)
    (λ k. place_free k (p + 1) (q + 1) bs)

-- ---- signs

line_end : (bs : List ℕ) → read (10 ∷ bs) ≡ read bs
unfolding tokens_from first_model_lexeme
line_end bs = place_free 0 1 0 bs

sign : (op : Infix) (bs : List ℕ) → read (infix_text op ++ bs) ≡ infix_token op ∷ read bs
unfolding tokens_from first_model_lexeme sign_token
sign Union bs = ap (λ (ts : List Token). tokens.Sign Bar ∷ ts) (place_free 0 3 0 bs)
sign Sequence bs = ap (λ (ts : List Token). tokens.Sign Semicolon ∷ ts) (place_free 0 3 0 bs)
sign Difference bs = ap (λ (ts : List Token). tokens.Sign Backslash ∷ ts) (place_free 0 3 0 bs)
sign Intersection bs = ap (λ (ts : List Token). tokens.Sign Ampersand ∷ ts) (place_free 0 3 0 bs)
sign Product bs = ap (λ (ts : List Token). tokens.Star ∷ ts) (place_free 0 3 0 bs)

tilde : (bs : List ℕ) → read (126 ∷ bs) ≡ tokens.Tilde ∷ read bs
unfolding tokens_from first_model_lexeme sign_token
tilde bs = ap (λ (ts : List Token). tokens.Tilde ∷ ts) (place_free 0 1 0 bs)

close : (bs : List ℕ) → read (41 ∷ bs) ≡ tokens.Close ∷ read bs
unfolding tokens_from first_model_lexeme sign_token
close bs = ap (λ (ts : List Token). tokens.Close ∷ ts) (place_free 0 1 0 bs)

open_square : (bs : List ℕ) → read (91 ∷ bs) ≡ tokens.OpenSquare ∷ read bs
unfolding tokens_from first_model_lexeme sign_token
open_square bs = ap (λ (ts : List Token). tokens.OpenSquare ∷ ts) (place_free 0 1 0 bs)

close_square : (bs : List ℕ) → read (93 ∷ bs) ≡ tokens.CloseSquare ∷ read bs
unfolding tokens_from first_model_lexeme sign_token
close_square bs = ap (λ (ts : List Token). tokens.CloseSquare ∷ ts) (place_free 0 1 0 bs)

braces : (bs : List ℕ) → read (123 ∷ 125 ∷ bs) ≡ tokens.OpenBrace ∷ tokens.CloseBrace ∷ read bs
unfolding tokens_from first_model_lexeme sign_token
braces bs =
    ap (λ (ts : List Token). tokens.OpenBrace ∷ tokens.CloseBrace ∷ ts) (place_free 0 2 0 bs)

underscore : (bs : List ℕ) → read (95 ∷ bs) ≡ tokens.Underscore ∷ read bs
unfolding tokens_from first_model_lexeme sign_token
underscore bs = ap (λ (ts : List Token). tokens.Underscore ∷ ts) (place_free 0 1 0 bs)

nought : (bs : List ℕ) → read (48 ∷ bs) ≡ tokens.Zero ∷ read bs
unfolding tokens_from first_model_lexeme sign_token
nought bs = ap (λ (ts : List Token). tokens.Zero ∷ ts) (place_free 0 1 0 bs)

comma : (bs : List ℕ) → read (codes ", " ++ bs) ≡ tokens.Comma ∷ read bs
unfolding tokens_from first_model_lexeme sign_token
comma bs = ap (λ (ts : List Token). tokens.Comma ∷ ts) (place_free 0 2 0 bs)

equals : (bs : List ℕ) → read (codes " = " ++ bs) ≡ tokens.Equals ∷ read bs
unfolding tokens_from first_model_lexeme sign_token
equals bs = ap (λ (ts : List Token). tokens.Equals ∷ ts) (place_free 0 3 0 bs)

close_equals : (bs : List ℕ) → read (codes ") = " ++ bs) ≡ tokens.Close ∷ tokens.Equals ∷ read bs
unfolding tokens_from first_model_lexeme sign_token
close_equals bs = ap (λ (ts : List Token). tokens.Close ∷ tokens.Equals ∷ ts) (place_free 0 4 0 bs)

-- what a byte is not, as a test
other : (b c : ℕ) → b ≢ c → (b == c) ≡ false
other b c h = grind (arith, nat_tests)

first_plus : (bs : List ℕ) → slice_index bs 0 ≢ 43 → first_model_lexeme (43 ∷ bs) ≡ Lexeme (tokens.Mark Plus) 1
unfolding first_model_lexeme sign_token
first_plus bs h =
    ap
    (λ (x : Bool). if x then Lexeme (tokens.Broken Unsupported) 2 else Lexeme (tokens.Mark Plus) 1)
    (other (slice_index bs 0) 43 h)

plus : (bs : List ℕ) → slice_index bs 0 ≢ 43 → read (43 ∷ bs) ≡ tokens.Mark Plus ∷ read bs
unfolding tokens_from
plus bs h =
    ap (λ (f : NextLexeme). model_tokens_of (after_lexeme 0 f (λ k. tokens_from k 1 bs))) (first_plus bs h)
    ∙ ap (λ (ts : List Token). tokens.Mark Plus ∷ ts) (place_free 0 1 0 bs)

other_mark : (op : Postfix) (bs : List ℕ) → op ≢ postfix.Transitive
    → read (postfix_text op ++ bs) ≡ postfix_token op ∷ read bs
unfolding tokens_from first_model_lexeme sign_token
other_mark postfix.Transitive bs h = absurd (h refl)
other_mark postfix.Reflexive bs h =
    ap (λ (ts : List Token). tokens.Mark Question ∷ ts) (place_free 0 1 0 bs)
other_mark postfix.Inverse bs h =
    ap (λ (ts : List Token). tokens.Mark Inverse ∷ ts) (place_free 0 3 0 bs)
other_mark postfix.Closure bs h = ap (λ (ts : List Token). tokens.Star ∷ ts) (place_free 0 1 0 bs)

mark : (op : Postfix) (bs : List ℕ) → slice_index bs 0 ≢ 43
    → read (postfix_text op ++ bs) ≡ postfix_token op ∷ read bs
mark postfix.Transitive bs h = plus bs h
mark postfix.Reflexive bs h = other_mark postfix.Reflexive bs (λ e. absurd cc)
mark postfix.Inverse bs h = other_mark postfix.Inverse bs (λ e. absurd cc)
mark postfix.Closure bs h = other_mark postfix.Closure bs (λ e. absurd cc)

first_open : (bs : List ℕ) → slice_index bs 0 ≢ 42 → first_model_lexeme (40 ∷ bs) ≡ Lexeme tokens.Open 1
unfolding first_model_lexeme sign_token
first_open bs h =
    ap
    (λ (x : Bool).
    if x then comment_lexeme (length (40 ∷ bs)) (comment_of (40 ∷ bs)) else Lexeme tokens.Open 1)
    (other (slice_index bs 0) 42 h)

open_bracket : (bs : List ℕ) → slice_index bs 0 ≢ 42 → read (40 ∷ bs) ≡ tokens.Open ∷ read bs
unfolding tokens_from
open_bracket bs h =
    ap (λ (f : NextLexeme). model_tokens_of (after_lexeme 0 f (λ k. tokens_from k 1 bs))) (first_open bs h)
    ∙ ap (λ (ts : List Token). tokens.Open ∷ ts) (place_free 0 1 0 bs)

-- ---- words

check_word : (w : CheckWord) (bs : List ℕ) → read (word_text w ++ bs) ≡ tokens.Check w ∷ read bs
unfolding tokens_from first_model_lexeme item_word part_word
check_word Acyclic bs = ap (λ (ts : List Token). tokens.Check Acyclic ∷ ts) (place_free 0 8 0 bs)
check_word Irreflexive bs =
    ap (λ (ts : List Token). tokens.Check Irreflexive ∷ ts) (place_free 0 12 0 bs)
check_word Empty bs = ap (λ (ts : List Token). tokens.Check Empty ∷ ts) (place_free 0 6 0 bs)

let_word : (bs : List ℕ) → read (codes "let " ++ bs) ≡ tokens.Let ∷ read bs
unfolding tokens_from first_model_lexeme item_word part_word
let_word bs = ap (λ (ts : List Token). tokens.Let ∷ ts) (place_free 0 4 0 bs)

rec_word : (bs : List ℕ) → read (codes "rec " ++ bs) ≡ tokens.Rec ∷ read bs
unfolding tokens_from first_model_lexeme item_word part_word
rec_word bs = ap (λ (ts : List Token). tokens.Rec ∷ ts) (place_free 0 4 0 bs)

and_word : (bs : List ℕ) → read (codes " and " ++ bs) ≡ tokens.And ∷ read bs
unfolding tokens_from first_model_lexeme item_word part_word
and_word bs = ap (λ (ts : List Token). tokens.And ∷ ts) (place_free 0 5 0 bs)

as_word : (bs : List ℕ) → read (codes " as " ++ bs) ≡ tokens.As ∷ read bs
unfolding tokens_from first_model_lexeme item_word part_word
as_word bs = ap (λ (ts : List Token). tokens.As ∷ ts) (place_free 0 4 0 bs)

flag_word : (bs : List ℕ) → read (codes "flag " ++ bs) ≡ tokens.Flag ∷ read bs
unfolding tokens_from first_model_lexeme item_word part_word
flag_word bs = ap (λ (ts : List Token). tokens.Flag ∷ ts) (place_free 0 5 0 bs)

show_word : (hidden : Bool) (bs : List ℕ)
    → read (show_text hidden ++ bs) ≡ show_token hidden ∷ read bs
unfolding tokens_from first_model_lexeme item_word part_word
show_word true bs = ap (λ (ts : List Token). tokens.Unshow ∷ ts) (place_free 0 7 0 bs)
show_word false bs = ap (λ (ts : List Token). tokens.Show ∷ ts) (place_free 0 5 0 bs)

include_word : (bs : List ℕ) → read (codes "include " ++ bs) ≡ tokens.Include ∷ read bs
unfolding tokens_from first_model_lexeme item_word part_word
include_word bs = ap (λ (ts : List Token). tokens.Include ∷ ts) (place_free 0 8 0 bs)

-- ---- names and strings

letter_is : (b : ℕ) → is_letter b ≡ true → (is_layout b ≡ false) × (b ≢ 42)
letter_is b h = (grind (arith, nat_tests), grind (arith, nat_tests))

name_len : (n bs : List ℕ) → IsName n → ends_name (slice_index bs 0) ≡ true
    → position_or_len ends_name (n ++ bs) ≡ length n
name_len n bs h e =
    let l = length-append n bs in
    position_or_len_is ends_name (n ++ bs) (length n) 0 (omega arith)
    (λ k lt. ap ends_name (get_or_append_left n bs 0 k lt) ∙ ap not (h.each k lt))
    (λ _. ap ends_name (seam n bs) ∙ e)

second_test : {A : Type 0} (x y : Bool) (a b z : A) → x ≡ false → y ≡ true
    → (if x then a else (if y then b else z)) ≡ b
second_test x y a b z p q =
    ap (λ (t : Bool). if t then a else (if y then b else z)) p
    ∙ ap (λ (t : Bool). if t then b else z) q

word_is : (n bs : List ℕ) → IsName n → ends_name (slice_index bs 0) ≡ true
    → word_lexeme (n ++ bs) (position_or_len ends_name (n ++ bs)) ≡ Lexeme (tokens.Name n) (length n)
word_is n bs h e =
    ap (word_lexeme (n ++ bs)) (name_len n bs h e)
    ∙ ap (λ (t : List ℕ). Lexeme (word_token t) (length n)) (take_at n bs (length n) refl)
    ∙ ap (λ (t : Token). Lexeme t (length n)) h.no_word

first_is_name : (c : ℕ) (cs bs : List ℕ) → IsName (c ∷ cs) → ends_name (slice_index bs 0) ≡ true
    → first_model_lexeme (c ∷ (cs ++ bs)) ≡ Lexeme (tokens.Name (c ∷ cs)) (length (c ∷ cs))
unfolding first_model_lexeme
first_is_name c cs bs h e =
    second_test (is_layout c) (is_letter c) _ _ _ (letter_is c h.first).0 h.first
    ∙ word_is (c ∷ cs) bs h e

name : (n bs : List ℕ) → IsName n → ends_name (slice_index bs 0) ≡ true
    → read (n ++ bs) ≡ tokens.Name n ∷ read bs
unfolding tokens_from
name [] bs h e = let bad : false ≡ true = h.first in absurd cc
name (c ∷ cs) bs h e =
    let l = length-append cs bs in
    ap (λ (f : NextLexeme). model_tokens_of (after_lexeme 0 f (λ k. tokens_from k 1 (cs ++ bs))))
    (first_is_name c cs bs h e)
    ∙ ap (λ (k : ℕ). tokens.Name (c ∷ cs) ∷ model_tokens_of (tokens_from k 1 (cs ++ bs))) (omega arith)
    ∙ ap (λ (ps : List TokenAt). tokens.Name (c ∷ cs) ∷ model_tokens_of ps)
    (tokens_skip (length cs) 1 (cs ++ bs) (omega arith))
    ∙ ap (λ (x : List ℕ). tokens.Name (c ∷ cs) ∷ model_tokens_of (tokens_from 0 (1 + length cs) x))
    (drop_at cs bs (length cs) refl)
    ∙ ap (λ (ts : List Token). tokens.Name (c ∷ cs) ∷ ts) (place_free 0 (1 + length cs) 0 bs)

-- a text between quotes that has none
pub first_quote : (path bs : List ℕ) → position_or_len is_quote (path ++ (34 ∷ bs)) ≡ length path
    → first_model_lexeme (34 ∷ (path ++ (34 ∷ bs))) ≡ Lexeme (tokens.Quoted path) (length path + 2)
unfolding first_model_lexeme
first_quote path bs h =
    let l = length-append path (34 ∷ bs) in
    let ends : (length path == length (path ++ (34 ∷ bs))) ≡ false = other (length path) (length (path ++ (34 ∷ bs))) (λ e. absurd (omega arith)) in
    let two : (length path + 2) - 2 ≡ length path = omega arith in
    ap
    (λ (n : ℕ). quoted_lexeme (34 ∷ (path ++ (34 ∷ bs))) (if n == length (path ++ (34 ∷ bs)) then None
    else Some (n + 2))) h
    ∙ ap
    (λ (x : Bool).
    quoted_lexeme (34 ∷ (path ++ (34 ∷ bs))) (if x then None else Some (length path + 2)))
    ends
    ∙ ap (λ (x : List ℕ). Lexeme (tokens.Quoted x) (length path + 2)) (ap
    (λ (n : ℕ). take n (path ++ (34 ∷ bs))) two
    ∙ take_at path (34 ∷ bs) (length path) refl)

quoted : (path bs : List ℕ) → position_or_len is_quote (path ++ (34 ∷ bs)) ≡ length path
    → read (34 ∷ (path ++ (34 ∷ bs))) ≡ tokens.Quoted path ∷ read bs
unfolding tokens_from
quoted path bs h =
    let l = length-append path (34 ∷ bs) in
    let m = length-append path (34 ∷ []) in
    let past : drop (length path + 1) (path ++ (34 ∷ bs)) ≡ bs =
    ap (drop (length path + 1)) (sym (append_assoc path (34 ∷ []) bs))
    ∙ drop_at (path ++ 34 ∷ []) bs (length path + 1) (omega arith) in
    ap (λ (f : NextLexeme). model_tokens_of (after_lexeme 0 f (λ k. tokens_from k 1 (path ++ (34 ∷ bs)))))
    (first_quote path bs h)
    ∙ ap (λ (k : ℕ). tokens.Quoted path ∷ model_tokens_of (tokens_from k 1 (path ++ (34 ∷ bs))))
    (omega arith)
    ∙ ap (λ (ps : List TokenAt). tokens.Quoted path ∷ model_tokens_of ps) (tokens_skip (length path + 1) 1
    (path ++ (34 ∷ bs)) (omega arith))
    ∙ ap (λ (x : List ℕ). tokens.Quoted path ∷ model_tokens_of (tokens_from 0 (1 + (length path + 1)) x))
    past
    ∙ ap (λ (ts : List Token). tokens.Quoted path ∷ ts) (place_free 0 (1 + (length path + 1)) 0 bs)

path_is : (path : List ℕ) → has_no_effect path ≡ true → (bs : List ℕ)
    → position_or_len is_quote (path ++ (34 ∷ bs)) ≡ length path
path_is path h bs = by_first (bytes_eq path (codes "cos.cat")) refl
  where
    by_first : (b : Bool) → bytes_eq path (codes "cos.cat") ≡ b
        → position_or_len is_quote (path ++ (34 ∷ bs)) ≡ length path
    by_first true e =
        ap (λ (x : List ℕ). position_or_len is_quote (x ++ (34 ∷ bs)))
        ((bytes_eq-Decides path (codes "cos.cat")).0 e)
        ∙ ap length (sym ((bytes_eq-Decides path (codes "cos.cat")).0 e))
    by_first false e =
        let second : bytes_eq path (codes "stdlib.cat") ≡ true = sym (ap (λ (b : Bool). if b then true else bytes_eq path (codes "stdlib.cat")) e) ∙ h in
        ap (λ (x : List ℕ). position_or_len is_quote (x ++ (34 ∷ bs)))
        ((bytes_eq-Decides path (codes "stdlib.cat")).0 second)
        ∙ ap length (sym ((bytes_eq-Decides path (codes "stdlib.cat")).0 second))

-- ---- what stands after an expression

-- no name goes on here, and no `+` where a postfix operator may stand before
pub record Stops (operator : Bool) (bs : List ℕ) : Type 0 where
  pub no_name : ends_name (slice_index bs 0) ≡ true
  pub no_plus : operator ≡ true → slice_index bs 0 ≢ 43

sign_stops : (b : Bool) (op : Infix) (bs : List ℕ) → Stops b (infix_text op ++ bs)
sign_stops b Union bs = record { no_name = refl; no_plus = λ _. λ e. absurd (omega arith) }
sign_stops b Sequence bs = record { no_name = refl; no_plus = λ _. λ e. absurd (omega arith) }
sign_stops b Difference bs = record { no_name = refl; no_plus = λ _. λ e. absurd (omega arith) }
sign_stops b Intersection bs = record { no_name = refl; no_plus = λ _. λ e. absurd (omega arith) }
sign_stops b Product bs = record { no_name = refl; no_plus = λ _. λ e. absurd (omega arith) }

mark_stops : (op : Postfix) (bs : List ℕ) → Stops false (postfix_text op ++ bs)
mark_stops postfix.Transitive bs = record { no_name = refl; no_plus = λ e. absurd cc }
mark_stops postfix.Reflexive bs = record { no_name = refl; no_plus = λ e. absurd cc }
mark_stops postfix.Inverse bs = record { no_name = refl; no_plus = λ e. absurd cc }
mark_stops postfix.Closure bs = record { no_name = refl; no_plus = λ e. absurd cc }

-- before a byte that no name and no operator begins
byte_stops : (b : Bool) (c : ℕ) (bs : List ℕ) → ends_name c ≡ true → c ≢ 43 → Stops b (c ∷ bs)
byte_stops b c bs e n = record { no_name = e; no_plus = λ _. n }

pub end_stops : (b : Bool) → Stops b []
end_stops b = record { no_name = refl; no_plus = λ _. λ e. absurd (omega arith) }

any_stops : (b : Bool) (bs : List ℕ) → Stops true bs → Stops b bs
any_stops b bs h = record { no_name = h.no_name; no_plus = λ _. h.no_plus refl }

-- ---- expressions

-- no printed expression begins with a star
first_operand : (b : Bool) (text bs : List ℕ) → slice_index (text ++ bs) 0 ≢ 42
    → slice_index (bracketed b text ++ bs) 0 ≢ 42
first_operand true text bs h = λ e. absurd (omega arith)
first_operand false text bs h = h

first_name : (n bs : List ℕ) → IsName n → slice_index (n ++ bs) 0 ≢ 42
first_name [] bs h = let bad : false ≡ true = h.first in absurd cc
first_name (c ∷ cs) bs h = (letter_is c h.first).1

first_byte : (v : Term) (bs : List ℕ) → IsTerm v → slice_index (printed_term v ++ bs) 0 ≢ 42
first_byte (Atom n) bs h = first_name n bs h
first_byte AllEvents bs h = λ e. absurd (omega arith)
first_byte EmptyRelation bs h = λ e. absurd (omega arith)
first_byte EmptySet bs h = λ e. absurd (omega arith)
first_byte (Join op a b) bs h =
    rw append_assoc (first_operand (is_binary a) (printed_term a)
    ((infix_text op ++ bracketed (is_binary b) (printed_term b)) ++ bs)
    (first_byte a _ h.0))
first_byte (Mark op a) bs h =
    rw append_assoc (first_operand (is_compound a) (printed_term a) (postfix_text op ++ bs)
    (first_byte a _ h))
first_byte (Not a) bs h = λ e. absurd (omega arith)
first_byte (On a) bs h = λ e. absurd (omega arith)
first_byte (Apply n arguments) bs h =
    rw append_assoc (first_name n
    ((codes "(" ++ (joined (codes ", ") (printed_terms arguments) ++ codes ")")) ++ bs) h.0)

first_argument : (vs : Terms) (bs : List ℕ) → AreTerms vs
    → slice_index (joined (codes ", ") (printed_terms vs) ++ bs) 0 ≢ 42
first_argument NoTerm bs h = absurd h
first_argument (OneMore a NoTerm) bs h = first_byte a bs h.0
first_argument (OneMore a (OneMore b others)) bs h =
    rw append_assoc (first_byte a
    ((codes ", " ++ joined (codes ", ") (printed_terms (OneMore b others))) ++ bs) h.0)

-- an operand, in brackets or not
operand_back : (operator b : Bool) (text : List ℕ) (t : Tree) (bs : List ℕ)
    → ((x : List ℕ) → Stops operator x → read (text ++ x) ≡ spelled t (read x))
    → slice_index (text ++ (41 ∷ bs)) 0 ≢ 42 → (b ≡ false → Stops operator bs)
    → read (bracketed b text ++ bs) ≡ spelled (grouped b t) (read bs)
operand_back operator false text t bs back first e = back bs (e refl)
operand_back operator true text t bs back first e =
    ap (λ (x : List ℕ). read (40 ∷ x)) (append_assoc text (41 ∷ []) bs)
    ∙ open_bracket (text ++ (41 ∷ bs)) first
    ∙ ap (λ (ts : List Token). tokens.Open ∷ ts) (back (41 ∷ bs)
    (byte_stops operator 41 bs refl (λ n. absurd (omega arith)))
    ∙ ap (spelled t) (close bs))

mutual
  read_back : (v : Term) (bs : List ℕ) → IsTerm v → Stops (is_compound v) bs
      → read (printed_term v ++ bs) ≡ spelled (tree_of v) (read bs)
  read_back (Atom n) bs h e = name n bs h e.no_name
  read_back AllEvents bs h e = underscore bs
  read_back EmptyRelation bs h e = nought bs
  read_back EmptySet bs h e = braces bs
  read_back (Join op a b) bs h e =
      let A = bracketed (is_binary a) (printed_term a) in
      let B = bracketed (is_binary b) (printed_term b) in
      ap read (append_assoc A (infix_text op ++ B) bs
      ∙ ap (λ (x : List ℕ). A ++ x) (append_assoc (infix_text op) B bs))
      ∙ operand_back (is_compound a) (is_binary a) (printed_term a) (tree_of a)
      (infix_text op ++ (B ++ bs)) (λ x k. read_back a x h.0 k) (first_byte a _ h.0)
      (λ _. sign_stops (is_compound a) op (B ++ bs))
      ∙ ap (spelled (grouped (is_binary a) (tree_of a))) (sign op (B ++ bs)
      ∙ ap (λ (ts : List Token). infix_token op ∷ ts) (
      operand_back (is_compound b) (is_binary b) (printed_term b) (tree_of b) bs
      (λ x k. read_back b x h.1 k) (first_byte b _ h.1) (λ _. any_stops (is_compound b) bs e)))
  read_back (Mark op a) bs h e =
      ap read (append_assoc (bracketed (is_compound a) (printed_term a)) (postfix_text op) bs)
      ∙ operand_back (is_compound a) (is_compound a) (printed_term a) (tree_of a)
      (postfix_text op ++ bs) (λ x k. read_back a x h k) (first_byte a _ h)
      (λ plain.
      subst (λ (x : Bool). Stops x (postfix_text op ++ bs)) (sym plain) (mark_stops op bs))
      ∙ ap (spelled (grouped (is_compound a) (tree_of a))) (mark op bs (e.no_plus refl))
  read_back (Not a) bs h e =
      tilde (bracketed (is_binary a) (printed_term a) ++ bs)
      ∙ ap (λ (ts : List Token). tokens.Tilde ∷ ts) (operand_back (is_compound a) (is_binary a)
      (printed_term a) (tree_of a) bs (λ x k. read_back a x h k) (first_byte a _ h)
      (λ _. any_stops (is_compound a) bs e))
  read_back (On a) bs h e =
      ap (λ (x : List ℕ). read (91 ∷ x)) (append_assoc (printed_term a) (93 ∷ []) bs)
      ∙ open_square (printed_term a ++ (93 ∷ bs))
      ∙ ap (λ (ts : List Token). tokens.OpenSquare ∷ ts) (read_back a (93 ∷ bs) h
      (byte_stops (is_compound a) 93 bs refl (λ n. absurd (omega arith)))
      ∙ ap (spelled (tree_of a)) (close_square bs))
  read_back (Apply n arguments) bs h e =
      let J = joined (codes ", ") (printed_terms arguments) in
      ap read (append_assoc n (codes "(" ++ (J ++ codes ")")) bs
      ∙ ap (λ (x : List ℕ). n ++ (40 ∷ x)) (append_assoc J (codes ")") bs))
      ∙ name n (40 ∷ (J ++ (41 ∷ bs))) h.0 refl
      ∙ ap (λ (ts : List Token). tokens.Name n ∷ ts) (open_bracket (J ++ (41 ∷ bs))
      (first_argument arguments (41 ∷ bs) h.1)
      ∙ ap (λ (ts : List Token). tokens.Open ∷ ts) (arguments_back arguments bs h.1))

  arguments_back : (vs : Terms) (bs : List ℕ) → AreTerms vs
      → read (joined (codes ", ") (printed_terms vs) ++ (41 ∷ bs))
      ≡ spelled_arguments (trees_of vs) (read bs)
  arguments_back NoTerm bs h = absurd h
  arguments_back (OneMore a NoTerm) bs h =
      read_back a (41 ∷ bs) h.0 (byte_stops (is_compound a) 41 bs refl (λ n. absurd (omega arith)))
      ∙ ap (spelled (tree_of a)) (close bs)
  arguments_back (OneMore a (OneMore b others)) bs h =
      let J = joined (codes ", ") (printed_terms (OneMore b others)) in
      ap read (append_assoc (printed_term a) (codes ", " ++ J) (41 ∷ bs))
      ∙ read_back a (codes ", " ++ (J ++ (41 ∷ bs))) h.0 (byte_stops (is_compound a) 44
      (32 ∷ (J ++ (41 ∷ bs))) refl (λ n. absurd (omega arith)))
      ∙ ap (spelled (tree_of a)) (comma (J ++ (41 ∷ bs))
      ∙ ap (λ (ts : List Token). tokens.Comma ∷ ts)
      (arguments_back (OneMore b others) bs h.1))

-- ---- items

label_back : (l : Option (List ℕ)) (bs : List ℕ) → IsOptionalLabel l → Stops true bs
    → read (optional_label l ++ bs) ≡ spelled_label l (read bs)
label_back None bs h e = refl
label_back (Some n) bs h e =
    as_word (n ++ bs) ∙ ap (λ (ts : List Token). tokens.As ∷ ts) (name n bs h e.no_name)

label_stops : (l : Option (List ℕ)) (bs : List ℕ) → Stops true bs
    → Stops true (optional_label l ++ bs)
label_stops None bs e = e
label_stops (Some n) bs e = byte_stops true 32 _ refl (λ k. absurd (omega arith))

tilde_back : (negated : Bool) (bs : List ℕ) (ts : List Token) → read bs ≡ ts
    → read (tilde_text negated ++ bs) ≡ spelled_tilde negated ts
tilde_back true bs ts h = tilde bs ∙ ap (λ (us : List Token). tokens.Tilde ∷ us) h
tilde_back false bs ts h = h

check_back : (c : Checked) (bs : List ℕ) → IsTerm c.body → Stops true bs
    → read (check_text c ++ bs) ≡ spelled_check (check_of c) (read bs)
check_back c bs h e =
    ap read (append_assoc (tilde_text c.negated) (word_text c.word ++ printed_term c.body) bs
    ∙ ap (λ (x : List ℕ). tilde_text c.negated ++ x)
    (append_assoc (word_text c.word) (printed_term c.body) bs))
    ∙ tilde_back c.negated _ _ (check_word c.word (printed_term c.body ++ bs)
    ∙ ap (λ (ts : List Token). tokens.Check c.word ∷ ts) (read_back c.body bs h
    (any_stops (is_compound c.body) bs e)))

binding_back : (b : List ℕ × Term) (bs : List ℕ) → IsName b.0 → IsTerm b.1 → Stops true bs
    → read (binding_text b ++ bs) ≡ spelled_bound (bound_of b) (read bs)
binding_back b bs n h e =
    ap read (append_assoc b.0 (codes " = " ++ printed_term b.1) bs)
    ∙ name b.0 (codes " = " ++ (printed_term b.1 ++ bs)) n refl
    ∙ ap (λ (ts : List Token). tokens.Name b.0 ∷ ts) (equals (printed_term b.1 ++ bs)
    ∙ ap (λ (ts : List Token). tokens.Equals ∷ ts)
    (read_back b.1 bs h (any_stops (is_compound b.1) bs e)))

group_back : (g : List (List ℕ × Term)) (bs : List ℕ) → AreBindings g → Stops true bs
    → read (joined (codes " and ") (map binding_text g) ++ bs)
    ≡ spelled_group (map bound_of g) (read bs)
group_back [] bs h e = refl
group_back (b ∷ []) bs h e = binding_back b bs h.0 h.1 e
group_back (b ∷ c ∷ g) bs h e =
    let J = joined (codes " and ") (map binding_text (c ∷ g)) in
    ap read (append_assoc (binding_text b) (codes " and " ++ J) bs)
    ∙ binding_back b (codes " and " ++ (J ++ bs)) h.0 h.1
    (byte_stops true 32 _ refl (λ n. absurd (omega arith)))
    ∙ ap (spelled_bound (bound_of b)) (and_word (J ++ bs)
    ∙ ap (λ (ts : List Token). tokens.And ∷ ts) (group_back (c ∷ g) bs h.2 e))

recursion_back : (recursive : Bool) (bs : List ℕ) (ts : List Token) → read bs ≡ ts
    → read (recursion_text recursive ++ bs) ≡ spelled_rec recursive ts
recursion_back true bs ts h = rec_word bs ∙ ap (λ (us : List Token). tokens.Rec ∷ us) h
recursion_back false bs ts h = h

parameters_back : (ps : List (List ℕ)) (bs : List ℕ) → AreNames ps
    → ends_name (slice_index bs 0) ≡ true
    → read (joined (codes ", ") ps ++ bs) ≡ spelled_parameters ps (read bs)
parameters_back [] bs h e = refl
parameters_back (p ∷ []) bs h e = name p bs h.0 e
parameters_back (p ∷ q ∷ ps) bs h e =
    let J = joined (codes ", ") (q ∷ ps) in
    ap read (append_assoc p (codes ", " ++ J) bs) ∙ name p (codes ", " ++ (J ++ bs)) h.0 refl
    ∙ ap (λ (ts : List Token). tokens.Name p ∷ ts) (comma (J ++ bs)
    ∙ ap (λ (ts : List Token). tokens.Comma ∷ ts) (parameters_back (q ∷ ps) bs h.1 e))

first_parameter : (ps : List (List ℕ)) (bs : List ℕ) → 0 < length ps → AreNames ps
    → slice_index (joined (codes ", ") ps ++ bs) 0 ≢ 42
first_parameter [] bs some h = absurd (omega arith)
first_parameter (p ∷ []) bs some h = first_name p bs h.0
first_parameter (p ∷ q ∷ ps) bs some h =
    rw append_assoc (first_name p ((codes ", " ++ joined (codes ", ") (q ∷ ps)) ++ bs) h.0)

one_back : (s : Term × Option (List ℕ)) (bs : List ℕ) → IsTerm s.0 → IsOptionalLabel s.1 → Stops true bs
    → read (shown_text s ++ bs) ≡ spelled_one (shown_of s) (read bs)
one_back s bs h l e =
    ap read (append_assoc (printed_term s.0) (optional_label s.1) bs)
    ∙ read_back s.0 (optional_label s.1 ++ bs) h
    (any_stops (is_compound s.0) _ (label_stops s.1 bs e))
    ∙ ap (spelled (tree_of s.0)) (label_back s.1 bs l e)

shown_back : (ss : List (Term × Option (List ℕ))) (bs : List ℕ) → written.AreShownTerms ss
    → Stops true bs
    → read (joined (codes ", ") (map shown_text ss) ++ bs)
    ≡ spelled_shown (map shown_of ss) (read bs)
shown_back [] bs h e = refl
shown_back (s ∷ []) bs h e = one_back s bs h.0 h.1 e
shown_back (s ∷ u ∷ ss) bs h e =
    let J = joined (codes ", ") (map shown_text (u ∷ ss)) in
    ap read (append_assoc (shown_text s) (codes ", " ++ J) bs)
    ∙ one_back s (codes ", " ++ (J ++ bs)) h.0 h.1
    (byte_stops true 44 _ refl (λ n. absurd (omega arith)))
    ∙ ap (spelled_one (shown_of s)) (comma (J ++ bs)
    ∙ ap (λ (ts : List Token). tokens.Comma ∷ ts) (shown_back (u ∷ ss) bs h.2 e))

item_back : (c : Clause) (bs : List ℕ) → IsWritable c → Stops true bs
    → read (printed_item c ++ bs) ≡ spelled_item (item_of c) (read bs)
item_back (Binding recursive group) bs h e =
    let J = joined (codes " and ") (map binding_text group) in
    ap (λ (x : List ℕ). read (codes "let " ++ x)) (append_assoc (recursion_text recursive) J bs)
    ∙ let_word (recursion_text recursive ++ (J ++ bs))
    ∙ ap (λ (ts : List Token). tokens.Let ∷ ts) (recursion_back recursive (J ++ bs) _
    (group_back group bs h.1 e))
item_back (value.Function n parameters body) bs h e =
    let J = joined (codes ", ") parameters in
    let P = printed_term body in
    ap (λ (x : List ℕ). read (codes "let " ++ x)) (append_assoc n
    (codes "(" ++ (J ++ (codes ") = " ++ P))) bs
    ∙ ap (λ (x : List ℕ). n ++ (40 ∷ x)) (append_assoc J (codes ") = " ++ P) bs))
    ∙ let_word (n ++ (40 ∷ (J ++ (codes ") = " ++ (P ++ bs)))))
    ∙ ap (λ (ts : List Token). tokens.Let ∷ ts) (name n (40 ∷ (J ++ (codes ") = " ++ (P ++ bs))))
    h.0 refl
    ∙ ap (λ (ts : List Token). tokens.Name n ∷ ts) (open_bracket (J ++ (codes ") = " ++ (P ++ bs)))
    (first_parameter parameters _ h.1 h.2)
    ∙ ap (λ (ts : List Token). tokens.Open ∷ ts) (parameters_back parameters
    (codes ") = " ++ (P ++ bs)) h.2 refl
    ∙ ap (spelled_parameters parameters) (close_equals (P ++ bs)
    ∙ ap (λ (ts : List Token). tokens.Close ∷ tokens.Equals ∷ ts)
    (read_back body bs h.3 (any_stops (is_compound body) bs e))))))
item_back (Checking check label) bs h e =
    ap read (append_assoc (check_text check) (optional_label label) bs)
    ∙ check_back check (optional_label label ++ bs) h.0 (label_stops label bs e)
    ∙ ap (spelled_check (check_of check)) (label_back label bs h.1 e)
item_back (Flagging check label) bs h e =
    ap (λ (x : List ℕ). read (codes "flag " ++ x))
    (append_assoc (check_text check) (label_text label) bs)
    ∙ flag_word (check_text check ++ (label_text label ++ bs))
    ∙ ap (λ (ts : List Token). tokens.Flag ∷ ts) (check_back check (label_text label ++ bs) h.0
    (label_stops (Some label) bs e)
    ∙ ap (spelled_check (check_of check)) (label_back (Some label) bs h.1 e))
item_back (Showing hidden shown) bs h e =
    let J = joined (codes ", ") (map shown_text shown) in
    ap read (append_assoc (show_text hidden) J bs) ∙ show_word hidden (J ++ bs)
    ∙ ap (λ (ts : List Token). show_token hidden ∷ ts) (shown_back shown bs h.1 e)
item_back (Including path) bs h e =
    ap (λ (x : List ℕ). read (codes "include " ++ (34 ∷ x))) (append_assoc path quote bs)
    ∙ include_word (34 ∷ (path ++ (34 ∷ bs)))
    ∙ ap (λ (ts : List Token). tokens.Include ∷ ts) (quoted path bs (path_is path h bs))

-- ---- texts

no_bytes : read [] ≡ tokens.End ∷ []
unfolding tokens_from
no_bytes = refl

model_tokens : (cs : List Clause) → AreWritable cs
    → read (printed_model cs) ≡ spelled_items (map item_of cs) (tokens.End ∷ [])
model_tokens [] h = no_bytes
model_tokens (c ∷ cs) h =
    item_back c (10 ∷ printed_model cs) h.0 (byte_stops true 10 _ refl (λ n. absurd (omega arith)))
    ∙ ap (spelled_item (item_of c)) (line_end (printed_model cs) ∙ model_tokens cs h.1)

item_tokens : (c : Clause) → IsWritable c
    → read (printed_item c) ≡ spelled_items (item_of c ∷ []) (tokens.End ∷ [])
item_tokens c h =
    ap read (sym (append-nil (printed_item c))) ∙ item_back c [] h (end_stops true)
    ∙ ap (spelled_item (item_of c)) no_bytes

-- a text of these items, where they keep the limits
item_means : (most : Limits) (c : Clause) → IsWritable c → KeepsLimits most c
    → Means most forms.Item (read (printed_item c)) (c ∷ [])
item_means most c h w =
    record { title = NoTitle; items = item_of c ∷ []; form_is = (refl, refl); each = items_fit most (c ∷ []) (h, tt) (w, tt); whole = item_tokens c h; meant = items_back (c ∷ []) (h, tt) }

model_means : (most : Limits) (cs : List Clause) → AreWritable cs → length cs ≤ most.items
    → KeepLimits most cs → Means most forms.Model (read (printed_model cs)) cs
model_means most cs h few w =
    let l = length-map cs item_of in
    record { title = NoTitle; items = map item_of cs; form_is = omega arith; each = items_fit most cs h w; whole = model_tokens cs h; meant = items_back cs h }

pub item_is_read : (c : Clause) → IsWritable c → IsTextOfItem (printed_item c) c
item_is_read c h = (enough (c ∷ []), item_means (enough (c ∷ [])) c h (is_enough (c ∷ [])).0)

pub model_is_read : (cs : List Clause) → AreWritable cs → IsTextOfModel (printed_model cs) cs
model_is_read cs h =
    let e = enough_items cs in
    (enough cs, model_means (enough cs) cs h (omega arith) (is_enough cs))

pub item_reads : (c : Clause) → IsWritable c → IsItemWithinLimits c → ReadsItem (printed_item c) c
item_reads c h w = record { short = w.short; means = item_means model_limits c h w.fits }

pub model_reads : (cs : List Clause) → AreWritable cs → IsModelWithinLimits cs
    → ReadsModel (printed_model cs) cs
model_reads cs h w = record { short = w.short; means = model_means model_limits cs h w.few w.fits }
