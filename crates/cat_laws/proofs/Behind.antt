-- What every text has behind `include`, and behind the name that follows `rec` or `and`.
use Rattle.std.proofs.Common.{◌≡◌, ℕ, ◌<◌, Bool, true, false, List, [], ◌∷◌, ◌++◌, length, refl, sym, subst, arith, append_assoc}
use Rattle.std.specs.Prelude.{Option, Some, None}
use Rattle.cat_tokens.specs.declared.token.Token.{Token}
use Rattle.cat_tokens.specs.declared.token.Token.TheVariants as tokens
use Rattle.text_values.specs.declared.model.Infix.{Infix}
use Rattle.text_values.specs.declared.model.Infix.TheVariants.{Union, Sequence, Difference, Intersection, Product}
use Rattle.text_values.specs.declared.model.Postfix.{Postfix}
use Rattle.text_values.specs.declared.model.Postfix.TheVariants as postfix
use Rattle.text_values.specs.ModelValue.{Clause}
use Rattle.cat_grammar.specs.declared.form.Form.{Form}
use Rattle.cat_grammar.specs.Grammar as grammar
use Rattle.cat_grammar.specs.Grammar.{Tree, Trees, Word, Underscore, Zero, Braces, Pair, Post, Prefix, Group, Square, Application, Last, More, infix_token, postfix_token, spelled, spelled_arguments, Limits, BindingTree, CheckTree, ItemTree, Let, Check, Flag, Show, Include, show_token, spelled_rec, spelled_tilde, spelled_label, spelled_group, spelled_parameters, spelled_check, spelled_shown, spelled_item, spelled_items, IsItemTree, AreItemTrees, Title, NoTitle, NameTitle, StringTitle, spelled_title, Means, is_rec_or_and}
use Rattle.cat_laws.specs.Parts.{IsPath, TextGoesOn}

abbrev BeginsPath : List Token → Type 0
BeginsPath [] = ⊥
BeginsPath (t ∷ ts) = IsPath t

abbrev IsEquals : List Token → Type 0
IsEquals [] = ⊥
IsEquals (t ∷ ts) = t ≡ tokens.Equals

abbrev BeginsBinding : List Token → Type 0
BeginsBinding (tokens.Name n ∷ ts) = IsEquals ts
BeginsBinding ts = ⊥

-- each `include` has its path behind it, and each `rec` and `and` a binding
abbrev Follows : List Token → Type 0
Follows [] = Unit {0}
Follows (tokens.Include ∷ ts) = BeginsPath ts × Follows ts
Follows (tokens.Rec ∷ ts) = BeginsBinding ts × Follows ts
Follows (tokens.And ∷ ts) = BeginsBinding ts × Follows ts
Follows (t ∷ ts) = Follows ts

infix_on : (op : Infix) (ts : List Token) → Follows ts → Follows (infix_token op ∷ ts)
infix_on Union ts h = h
infix_on Sequence ts h = h
infix_on Difference ts h = h
infix_on Intersection ts h = h
infix_on Product ts h = h

postfix_on : (op : Postfix) (ts : List Token) → Follows ts → Follows (postfix_token op ∷ ts)
postfix_on postfix.Transitive ts h = h
postfix_on postfix.Reflexive ts h = h
postfix_on postfix.Inverse ts h = h
postfix_on postfix.Closure ts h = h

mutual
  tree_on : (t : Tree) (rest : List Token) → Follows rest → Follows (spelled t rest)
  tree_on (Word n) rest h = h
  tree_on Underscore rest h = h
  tree_on Zero rest h = h
  tree_on Braces rest h = h
  tree_on (Pair op a b) rest h =
      tree_on a (infix_token op ∷ spelled b rest) (infix_on op (spelled b rest) (tree_on b rest h))
  tree_on (Post op a) rest h = tree_on a (postfix_token op ∷ rest) (postfix_on op rest h)
  tree_on (Prefix a) rest h = tree_on a rest h
  tree_on (Group a) rest h = tree_on a (tokens.Close ∷ rest) h
  tree_on (Square a) rest h = tree_on a (tokens.CloseSquare ∷ rest) h
  tree_on (Application n arguments) rest h = trees_on arguments rest h

  trees_on : (ts : Trees) (rest : List Token) → Follows rest → Follows (spelled_arguments ts rest)
  trees_on (Last a) rest h = tree_on a (tokens.Close ∷ rest) h
  trees_on (More a others) rest h =
      tree_on a (tokens.Comma ∷ spelled_arguments others rest) (trees_on others rest h)

label_on : (l : Option (List ℕ)) (rest : List Token) → Follows rest → Follows (spelled_label l rest)
label_on None rest h = h
label_on (Some n) rest h = h

tilde_on : (negated : Bool) (rest : List Token) → Follows rest
    → Follows (spelled_tilde negated rest)
tilde_on true rest h = h
tilde_on false rest h = h

check_on : (c : CheckTree) (rest : List Token) → Follows rest → Follows (spelled_check c rest)
check_on c rest h =
    tilde_on c.negated (tokens.Check c.word ∷ spelled c.body rest) (tree_on c.body rest h)

group_begins : (b : BindingTree) (bs : List BindingTree) (rest : List Token)
    → BeginsBinding (spelled_group (b ∷ bs) rest)
group_begins b [] rest = refl
group_begins b (c ∷ bs) rest = refl

group_on : (g : List BindingTree) (rest : List Token) → Follows rest → Follows (spelled_group g rest)
group_on [] rest h = h
group_on (b ∷ []) rest h = tree_on b.body rest h
group_on (b ∷ c ∷ bs) rest h =
    tree_on b.body (tokens.And ∷ spelled_group (c ∷ bs) rest)
    (group_begins c bs rest, group_on (c ∷ bs) rest h)

rec_on : (recursive : Bool) (g : List BindingTree) (rest : List Token) → 0 < length g → Follows rest
    → Follows (spelled_rec recursive (spelled_group g rest))
rec_on false g rest some h = group_on g rest h
rec_on true [] rest some h = absurd (omega arith)
rec_on true (b ∷ bs) rest some h = (group_begins b bs rest, group_on (b ∷ bs) rest h)

parameters_on : (ps : List (List ℕ)) (rest : List Token) → Follows rest
    → Follows (spelled_parameters ps rest)
parameters_on [] rest h = h
parameters_on (p ∷ []) rest h = h
parameters_on (p ∷ q ∷ ps) rest h = parameters_on (q ∷ ps) rest h

shown_on : (ss : List grammar.ShowTree) (rest : List Token) → Follows rest
    → Follows (spelled_shown ss rest)
shown_on [] rest h = h
shown_on (s ∷ []) rest h = tree_on s.body (spelled_label s.label rest) (label_on s.label rest h)
shown_on (s ∷ u ∷ ss) rest h =
    let more = tokens.Comma ∷ spelled_shown (u ∷ ss) rest in
    tree_on s.body (spelled_label s.label more) (label_on s.label more (shown_on (u ∷ ss) rest h))

show_on : (hidden : Bool) (rest : List Token) → Follows rest → Follows (show_token hidden ∷ rest)
show_on true rest h = h
show_on false rest h = h

item_on : (most : Limits) (i : ItemTree) (rest : List Token) → IsItemTree most i → Follows rest
    → Follows (spelled_item i rest)
item_on most (Let recursive group) rest is h = rec_on recursive group rest is.0 h
item_on most (grammar.Function n parameters body) rest is h =
    parameters_on parameters (tokens.Close ∷ tokens.Equals ∷ spelled body rest)
    (tree_on body rest h)
item_on most (Check c label) rest is h =
    check_on c (spelled_label label rest) (label_on label rest h)
item_on most (Flag c label) rest is h = check_on c (tokens.As ∷ tokens.Name label ∷ rest) h
item_on most (Show hidden shown) rest is h =
    show_on hidden (spelled_shown shown rest) (shown_on shown rest h)
item_on most (Include path) rest is h = (is, h)

items_on : (most : Limits) (is : List ItemTree) (rest : List Token) → AreItemTrees most is
    → Follows rest → Follows (spelled_items is rest)
items_on most [] rest each h = h
items_on most (i ∷ is) rest each h =
    item_on most i (spelled_items is rest) each.0 (items_on most is rest each.1 h)

title_on : (t : Title) (rest : List Token) → Follows rest → Follows (spelled_title t rest)
title_on NoTitle rest h = h
title_on (NameTitle n) rest h = h
title_on (StringTitle s) rest h = h

text_on : (most : Limits) (form : Form) (ts : List Token) (v : List Clause) → Means most form ts v
    → Follows ts
text_on most form ts v m =
    let closing = tokens.End ∷ [] in
    subst Follows (sym m.whole) (title_on m.title (spelled_items m.items closing)
    (items_on most m.items closing m.each tt))

-- what stands behind some tokens
behind : (xs ys : List Token) → Follows (xs ++ ys) → Follows ys
behind [] ys h = h
behind (tokens.Include ∷ xs) ys h = behind xs ys h.1
behind (tokens.Rec ∷ xs) ys h = behind xs ys h.1
behind (tokens.And ∷ xs) ys h = behind xs ys h.1
behind (t ∷ xs) ys h = behind xs ys h

pub path_behind : (most : Limits) (form : Form) (before : List Token) (here : Token)
    → TextGoesOn most form (before ++ tokens.Include ∷ []) here → IsPath here
path_behind most form before here g =
    (behind before (tokens.Include ∷ here ∷ g.rest) (subst Follows
    (append_assoc before (tokens.Include ∷ []) (here ∷ g.rest))
    (text_on most form _ g.items g.text))).0

equals_of : (a : Token) (n : List ℕ) (here : Token) (rest : List Token) → is_rec_or_and a ≡ true
    → Follows (a ∷ tokens.Name n ∷ here ∷ rest) → here ≡ tokens.Equals
equals_of tokens.Rec n here rest e h = h.0
equals_of tokens.And n here rest e h = h.0
equals_of a n here rest e h = absurd cc

pub equals_behind : (most : Limits) (form : Form) (before : List Token) (a : Token) (n : List ℕ)
    (here : Token) → is_rec_or_and a ≡ true
    → TextGoesOn most form (before ++ a ∷ tokens.Name n ∷ []) here → here ≡ tokens.Equals
equals_behind most form before a n here e g =
    equals_of a n here g.rest e (behind before (a ∷ tokens.Name n ∷ here ∷ g.rest)
    (subst Follows (append_assoc before (a ∷ tokens.Name n ∷ []) (here ∷ g.rest))
    (text_on most form _ g.items g.text)))
