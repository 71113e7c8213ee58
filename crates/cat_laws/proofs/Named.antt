-- What a text means has names that are names: what is read can be printed and read again.
use Rattle.std.proofs.Common.{◌≡◌, ℕ, zero, suc, ◌+◌, ◌-◌, ◌<◌, Bool, true, false, List, [], ◌∷◌, length, get_or, take, refl, ap, ◌∙◌, subst, arith}
use Rattle.std.specs.Prelude.{Option, Some, None, codes, slice_index, ◌==◌, ◌&&◌, ◌||◌, not, if◌then◌else◌}
use Rattle.std.specs.Str.{bytes_eq}
use Rattle.std.specs.List.{position_or_len}
use Rattle.std.proofs.lemmas.Bool.Decides.{nat_tests}
use Rattle.std.proofs.lemmas.List.{length-take, get_or-take}
use Rattle.std.proofs.lemmas.List.Sums.{fails_before_first}
use Rattle.std.proofs.lemmas.Bool.{not-false}
use Rattle.text_values.specs.Layout.{quoted_from, comment_of}
use Rattle.cat_tokens.specs.declared.token.Token.{Token}
use Rattle.cat_tokens.specs.declared.token.Token.TheVariants as tokens
use Rattle.cat_tokens.specs.declared.lexer.NextLexeme.{NextLexeme}
use Rattle.cat_tokens.specs.declared.lexer.NextLexeme.TheVariants.{Layout, Lexeme}
use Rattle.cat_grammar.specs.declared.form.Form.{Form}
use Rattle.cat_grammar.specs.declared.form.Form.TheVariants as forms
use Rattle.text_values.specs.ModelValue.{Terms, NoTerm, OneMore, Clause}
use Rattle.cat_tokens.specs.Words.{item_word, part_word, is_definition_word, is_other_word, name_or_broken, word_or, word_token}
use Rattle.cat_tokens.specs.Lexer.{is_layout, is_name_byte, ends_name, comment_lexeme, quoted_lexeme, word_lexeme, sign_token, first_model_lexeme, after_lexeme, tokens_from, model_lexing}
use Rattle.text_values.specs.Letters.{is_letter}
use Rattle.text_laws.proofs.Runs.{tested}
use Rattle.cat_grammar.specs.Grammar as grammar
use Rattle.cat_tokens.specs.Tokens.{TokenAt, model_tokens_of}
use Rattle.cat_grammar.specs.Grammar.{Tree, Trees, Word, Underscore, Zero, Braces, Pair, Post, Prefix, Group, Square, Application, Last, More, infix_token, postfix_token, spelled, spelled_arguments, meaning, meanings, Limits, model_limits, BindingTree, CheckTree, ItemTree, Let, Check, Flag, Show, Include, spelled_rec, spelled_tilde, spelled_label, spelled_group, spelled_parameters, spelled_check, spelled_shown, spelled_item, spelled_items, group_meaning, shown_meaning, item_meaning, items_meaning, IsItemTree, AreItemTrees, Title, NoTitle, NameTitle, StringTitle, spelled_title, Means}
use Rattle.cat_laws.specs.Written as written
use Rattle.cat_laws.specs.Written.{IsName, IsTerm, AreTerms, AreOthers, AreNames, IsOptionalLabel, AreBindings, IsWritable, AreWritable, IsTextOfItem, IsTextOfModel, ReadsItem, ReadsModel}
use Rattle.cat_grammar.proofs.Groups.{length-group_meaning}

-- ---- tokens

abbrev IsNamed : Token → Type 0
IsNamed (tokens.Name n) = IsName n
IsNamed _ = Unit {0}

abbrev AreNamed : List Token → Type 0
AreNamed [] = Unit {0}
AreNamed (t ∷ ts) = IsNamed t × AreNamed ts

abbrev IsNamedLexeme : NextLexeme → Type 0
IsNamedLexeme (Layout n) = Unit {0}
IsNamedLexeme (Lexeme t n) = IsNamed t

abbrev IsNamedOption : Option Token → Type 0
IsNamedOption None = Unit {0}
IsNamedOption (Some t) = IsNamed t

either : {A : Type 0} (P : A → Type 0) (b : Bool) (x y : A) → P x → P y → P (if b then x else y)
either P true x y p q = p
either P false x y p q = q

sign_named : (b : ℕ) → IsNamed (sign_token b)
unfolding sign_token
sign_named b =
    either IsNamed (b == 124) _ _ tt (either IsNamed (b == 59) _ _ tt (either IsNamed (b == 92) _ _
    tt (either IsNamed (b == 38) _ _ tt (
    either IsNamed (b == 43) _ _ tt (either IsNamed (b == 63) _ _ tt (either IsNamed (b == 42) _ _
    tt (either IsNamed (b == 126) _ _ tt (
    either IsNamed (b == 40) _ _ tt (either IsNamed (b == 41) _ _ tt (either IsNamed (b == 91) _ _
    tt (either IsNamed (b == 93) _ _ tt (
    either IsNamed (b == 123) _ _ tt (either IsNamed (b == 125) _ _ tt (either IsNamed (b == 95) _ _
    tt (either IsNamed (b == 48) _ _ tt (
    either IsNamed (b == 44) _ _ tt (either IsNamed (b == 61) _ _ tt tt)))))))))))))))))

item_named : (t : List ℕ) → IsNamedOption (item_word t)
unfolding item_word
item_named t =
    either IsNamedOption (bytes_eq t (codes "let")) _ _ tt (either IsNamedOption
    (bytes_eq t (codes "acyclic")) _ _ tt (
    either IsNamedOption (bytes_eq t (codes "irreflexive")) _ _ tt (either IsNamedOption
    (bytes_eq t (codes "empty")) _ _ tt (
    either IsNamedOption (bytes_eq t (codes "flag")) _ _ tt (either IsNamedOption
    (bytes_eq t (codes "show")) _ _ tt (
    either IsNamedOption (bytes_eq t (codes "unshow")) _ _ tt (either IsNamedOption
    (bytes_eq t (codes "include")) _ _ tt tt)))))))

part_named : (t : List ℕ) → IsNamedOption (part_word t)
unfolding part_word
part_named t =
    either IsNamedOption (bytes_eq t (codes "rec")) _ _ tt (either IsNamedOption
    (bytes_eq t (codes "and")) _ _ tt (
    either IsNamedOption (bytes_eq t (codes "as")) _ _ tt tt))

-- a word is a name only where it is no word of the language
module _ (n : List ℕ) (first : is_letter (slice_index n 0) ≡ true)
    (each : (k : ℕ) → k < length n → is_name_byte (slice_index n k) ≡ true) where
  abbrev broken : Bool
  broken = is_definition_word n || is_other_word n

  by_test : (b : Bool) → (word_token n ≡ name_or_broken b n) → IsNamed (name_or_broken b n)
  by_test true e = tt
  by_test false e = record { first = first; each = each; no_word = e }

  by_part : (o : Option Token) → IsNamedOption o
      → (word_token n ≡ word_or o (name_or_broken broken n))
      → IsNamed (word_or o (name_or_broken broken n))
  by_part None h e = by_test broken e
  by_part (Some t) h e = h

  by_item : (o : Option Token) → IsNamedOption o
      → (word_token n ≡ word_or o (word_or (part_word n) (name_or_broken broken n)))
      → IsNamed (word_or o (word_or (part_word n) (name_or_broken broken n)))
  by_item None h e = by_part (part_word n) (part_named n) e
  by_item (Some t) h e = h

  pub word_named : IsNamed (word_token n)
  word_named = by_item (item_word n) (item_named n) refl

pub letter_in_name : (b : ℕ) → is_letter b ≡ true → is_name_byte b ≡ true
letter_in_name b h = grind (arith, nat_tests)

pub first_of : (b : ℕ) (bs : List ℕ) → is_letter b ≡ true
    → slice_index (take (position_or_len ends_name (b ∷ bs)) (b ∷ bs)) 0 ≡ b
first_of b bs h =
    let some : position_or_len ends_name (b ∷ bs) ≡ suc (position_or_len ends_name bs) = ap (λ (x : Bool). if x then 1 + position_or_len ends_name bs else 0) (twice (is_name_byte b) ∙ letter_in_name b h) ∙ one_more (position_or_len ends_name bs) in
    ap (λ (k : ℕ). slice_index (take k (b ∷ bs)) 0) some
  where
    twice : (x : Bool) → not (not x) ≡ x
    twice true = refl
    twice false = refl

    one_more : (k : ℕ) → 1 + k ≡ suc k
    one_more k = omega arith

pub each_of : (bs : List ℕ) (k : ℕ) → k < length (take (position_or_len ends_name bs) bs)
    → is_name_byte (slice_index (take (position_or_len ends_name bs) bs) k) ≡ true
each_of bs k lt =
    let n = position_or_len ends_name bs in
    let l = length-take n bs in
    ap is_name_byte (get_or-take n bs k 0 (omega arith))
    ∙ not-false (is_name_byte (get_or bs k 0))
    (fails_before_first ends_name bs k 0 (omega arith))

word_lexeme_named : (b : ℕ) (bs : List ℕ) → is_letter b ≡ true
    → IsNamedLexeme (word_lexeme (b ∷ bs) (position_or_len ends_name (b ∷ bs)))
word_lexeme_named b bs h =
    word_named (take (position_or_len ends_name (b ∷ bs)) (b ∷ bs))
    (ap is_letter (first_of b bs h) ∙ h) (each_of (b ∷ bs))

comment_named : (n : ℕ) (o : Option ℕ) → IsNamedLexeme (comment_lexeme n o)
comment_named n None = tt
comment_named n (Some k) = tt

quoted_named : (bs : List ℕ) (o : Option ℕ) → IsNamedLexeme (quoted_lexeme bs o)
quoted_named bs None = tt
quoted_named bs (Some k) = tt

first_named : (b : ℕ) (bs : List ℕ) → IsNamedLexeme (first_model_lexeme (b ∷ bs))
unfolding first_model_lexeme
first_named b bs =
    let x = slice_index (b ∷ bs) 1 in
    let y = slice_index (b ∷ bs) 2 in
    either IsNamedLexeme (is_layout b) _ _ tt (tested IsNamedLexeme (is_letter b) _ _
    (word_lexeme_named b bs) (λ _.
    either IsNamedLexeme (b == 47 && x == 47) _ _ tt (either IsNamedLexeme (b == 40 && x == 42) _ _
    (comment_named (length (b ∷ bs)) (comment_of (b ∷ bs))) (
    either IsNamedLexeme (b == 34) _ _ (quoted_named (b ∷ bs) (quoted_from (b ∷ bs))) (
    either IsNamedLexeme (b == 43 && x == 43) _ _ tt (either IsNamedLexeme
    (b == 94 && x == 45 && y == 49) _ _ tt (sign_named b)))))))

after_named : (offset : ℕ) (f : NextLexeme) (later : ℕ → List TokenAt) → IsNamedLexeme f
    → ((k : ℕ) → AreNamed (model_tokens_of (later k))) → AreNamed (model_tokens_of (after_lexeme offset f later))
after_named offset (Layout n) later h more = more (n - 1)
after_named offset (Lexeme t n) later h more = (h, more (n - 1))

tokens_named : (skip offset : ℕ) (bs : List ℕ) → AreNamed (model_tokens_of (tokens_from skip offset bs))
unfolding tokens_from
tokens_named zero offset [] = (tt, tt)
tokens_named (suc k) offset [] = (tt, tt)
tokens_named (suc k) offset (b ∷ bs) = tokens_named k (offset + 1) bs
tokens_named zero offset (b ∷ bs) =
    after_named offset (first_model_lexeme (b ∷ bs)) (λ k. tokens_from k (offset + 1) bs) (first_named b bs)
    (λ k. tokens_named k (offset + 1) bs)

-- ---- trees

others : (vs : Terms) → AreTerms vs → AreOthers vs
others NoTerm h = tt
others (OneMore a more) h = h

mutual
  tree_named : (t : Tree) (rest : List Token) → AreNamed (spelled t rest)
      → IsTerm (meaning t) × AreNamed rest
  tree_named (Word n) rest h = h
  tree_named Underscore rest h = h
  tree_named Zero rest h = h
  tree_named Braces rest h = h.1
  tree_named (Pair op a b) rest h =
      let x = tree_named a (infix_token op ∷ spelled b rest) h in
      let y = tree_named b rest x.1.1 in
      ((x.0, y.0), y.1)
  tree_named (Post op a) rest h =
      let x = tree_named a (postfix_token op ∷ rest) h in
      (x.0, x.1.1)
  tree_named (Prefix a) rest h = tree_named a rest h.1
  tree_named (Group a) rest h =
      let x = tree_named a (tokens.Close ∷ rest) h.1 in
      (x.0, x.1.1)
  tree_named (Square a) rest h =
      let x = tree_named a (tokens.CloseSquare ∷ rest) h.1 in
      (x.0, x.1.1)
  tree_named (Application n arguments) rest h =
      let x = trees_named arguments rest h.1.1 in
      ((h.0, x.0), x.1)

  trees_named : (ts : Trees) (rest : List Token) → AreNamed (spelled_arguments ts rest)
      → AreTerms (meanings ts) × AreNamed rest
  trees_named (Last a) rest h =
      let x = tree_named a (tokens.Close ∷ rest) h in
      ((x.0, tt), x.1.1)
  trees_named (More a more) rest h =
      let x = tree_named a (tokens.Comma ∷ spelled_arguments more rest) h in
      let y = trees_named more rest x.1.1 in
      ((x.0, others (meanings more) y.0), y.1)

-- ---- items

label_named : (l : Option (List ℕ)) (rest : List Token) → AreNamed (spelled_label l rest)
    → IsOptionalLabel l × AreNamed rest
label_named None rest h = (tt, h)
label_named (Some n) rest h = h.1

rec_named : (recursive : Bool) (rest : List Token) → AreNamed (spelled_rec recursive rest)
    → AreNamed rest
rec_named true rest h = h.1
rec_named false rest h = h

tilde_named : (negated : Bool) (rest : List Token) → AreNamed (spelled_tilde negated rest)
    → AreNamed rest
tilde_named true rest h = h.1
tilde_named false rest h = h

check_named : (c : CheckTree) (rest : List Token) → AreNamed (spelled_check c rest)
    → IsTerm (meaning c.body) × AreNamed rest
check_named c rest h =
    tree_named c.body rest (tilde_named c.negated (tokens.Check c.word ∷ spelled c.body rest) h).1

group_named : (g : List BindingTree) (rest : List Token) → AreNamed (spelled_group g rest)
    → AreBindings (group_meaning g) × AreNamed rest
group_named [] rest h = (tt, h)
group_named (b ∷ []) rest h =
    let x = tree_named b.body rest h.1.1 in
    ((h.0, x.0, tt), x.1)
group_named (b ∷ c ∷ bs) rest h =
    let x = tree_named b.body (tokens.And ∷ spelled_group (c ∷ bs) rest) h.1.1 in
    let y = group_named (c ∷ bs) rest x.1.1 in
    ((h.0, x.0, y.0), y.1)

parameters_named : (ps : List (List ℕ)) (rest : List Token) → AreNamed (spelled_parameters ps rest)
    → AreNames ps × AreNamed rest
parameters_named [] rest h = (tt, h)
parameters_named (p ∷ []) rest h = ((h.0, tt), h.1)
parameters_named (p ∷ q ∷ ps) rest h =
    let x = parameters_named (q ∷ ps) rest h.1.1 in
    ((h.0, x.0), x.1)

shown_named : (ss : List grammar.ShowTree) (rest : List Token) → AreNamed (spelled_shown ss rest)
    → written.AreShownTerms (shown_meaning ss) × AreNamed rest
shown_named [] rest h = (tt, h)
shown_named (s ∷ []) rest h =
    let x = tree_named s.body (spelled_label s.label rest) h in
    let y = label_named s.label rest x.1 in
    ((x.0, y.0, tt), y.1)
shown_named (s ∷ u ∷ ss) rest h =
    let more = tokens.Comma ∷ spelled_shown (u ∷ ss) rest in
    let x = tree_named s.body (spelled_label s.label more) h in
    let y = label_named s.label more x.1 in
    let z = shown_named (u ∷ ss) rest y.1.1 in
    ((x.0, y.0, z.0), z.1)

shown_length : (ss : List grammar.ShowTree) → length (shown_meaning ss) ≡ length ss
shown_length [] = refl
shown_length (s ∷ ss) = ap suc (shown_length ss)

item_named_of : (most : Limits) (i : ItemTree) (rest : List Token) → IsItemTree most i
    → AreNamed (spelled_item i rest) → IsWritable (item_meaning i) × AreNamed rest
item_named_of most (Let recursive group) rest is h =
    let x = group_named group rest (rec_named recursive (spelled_group group rest) h.1) in
    let l = length-group_meaning group in
    let some = is.0 in
    ((omega arith, x.0), x.1)
item_named_of most (grammar.Function n parameters body) rest is h =
    let x = parameters_named parameters (tokens.Close ∷ tokens.Equals ∷ spelled body rest) h.1.1.1 in
    let y = tree_named body rest x.1.1.1 in
    ((h.1.0, is.0, x.0, y.0), y.1)
item_named_of most (Check c label) rest is h =
    let x = check_named c (spelled_label label rest) h in
    let y = label_named label rest x.1 in
    ((x.0, y.0), y.1)
item_named_of most (Flag c label) rest is h =
    let x = check_named c (tokens.As ∷ tokens.Name label ∷ rest) h.1 in
    ((x.0, x.1.1.0), x.1.1.1)
item_named_of most (Show hidden shown) rest is h =
    let x = shown_named shown rest h.1 in
    let l = shown_length shown in
    let some = is.0 in
    ((omega arith, x.0), x.1)
item_named_of most (Include path) rest is h = (is, h.1.1)

items_named : (most : Limits) (is : List ItemTree) (rest : List Token) → AreItemTrees most is
    → AreNamed (spelled_items is rest) → AreWritable (items_meaning is)
items_named most [] rest each h = tt
items_named most (i ∷ is) rest each h =
    let x = item_named_of most i (spelled_items is rest) each.0 h in
    (x.0, items_named most is rest each.1 x.1)

title_named : (t : Title) (rest : List Token) → AreNamed (spelled_title t rest) → AreNamed rest
title_named NoTitle rest h = h
title_named (NameTitle n) rest h = h.1
title_named (StringTitle s) rest h = h.1

-- what a text means is a value that a text can have
meant_is_written : (bytes : List ℕ) (most : Limits) (form : Form) (v : List Clause)
    → Means most form (model_tokens_of (model_lexing bytes)) v → AreWritable v
meant_is_written bytes most form v m =
    let closing = tokens.End ∷ [] in
    subst AreWritable m.meant (items_named most m.items closing m.each (title_named m.title
    (spelled_items m.items closing) (subst AreNamed m.whole (tokens_named 0 0 bytes))))

pub item_is_written : (bytes : List ℕ) (c : Clause) → IsTextOfItem bytes c → IsWritable c
item_is_written bytes c h = (meant_is_written bytes h.0 forms.Item (c ∷ []) h.1).0

pub model_is_written : (bytes : List ℕ) (cs : List Clause) → IsTextOfModel bytes cs → AreWritable cs
model_is_written bytes cs h = meant_is_written bytes h.0 forms.Model cs h.1

pub item_was_written : (bytes : List ℕ) (c : Clause) → ReadsItem bytes c → IsWritable c
item_was_written bytes c r = (meant_is_written bytes model_limits forms.Item (c ∷ []) r.means).0

pub model_was_written : (bytes : List ℕ) (cs : List Clause) → ReadsModel bytes cs → AreWritable cs
model_was_written bytes cs r = meant_is_written bytes model_limits forms.Model cs r.means
