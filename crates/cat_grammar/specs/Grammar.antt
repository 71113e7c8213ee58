-- The grammar, on whole lists of tokens: a text is what some tree spells.
use Rattle.std.specs.Prelude.{◌≡◌, ℕ, ◌+◌, ◌≤◌, ◌<◌, List, [], ◌∷◌, ◌++◌, Bool, true, false, ◌&&◌, Option, Some, None, max, length, codes, if◌then◌else◌}
use Rattle.std.specs.Str.{bytes_eq}
use Rattle.cat_tokens.specs.declared.rule.CatRule.{CatRule}
use Rattle.cat_tokens.specs.declared.rule.CatRule.TheVariants as rules
use Rattle.text_values.specs.declared.model.CheckWord.{CheckWord}
use Rattle.text_values.specs.declared.model.Infix.{Infix}
use Rattle.text_values.specs.declared.model.Infix.TheVariants.{Union, Sequence, Difference, Intersection, Product}
use Rattle.text_values.specs.declared.model.Postfix.{Postfix}
use Rattle.text_values.specs.declared.model.Postfix.TheVariants as postfix
use Rattle.cat_grammar.specs.declared.form.Form.{Form}
use Rattle.cat_grammar.specs.declared.form.Form.TheVariants as forms
use Rattle.cat_tokens.specs.declared.token.Sign.TheVariants.{Bar, Semicolon, Backslash, Ampersand}
use Rattle.cat_tokens.specs.declared.token.Mark.TheVariants.{Plus, Question, Inverse}
use Rattle.cat_tokens.specs.declared.token.Token.{Token}
use Rattle.cat_tokens.specs.declared.token.Token.TheVariants as tokens
use Rattle.cat_tokens.specs.Tokens.{TokenAt, model_tokens_of}
use Rattle.text_values.specs.ModelValue as value
use Rattle.text_values.specs.ModelValue.{Term, Terms, Checked, Clause}

-- ---- expressions

mutual
  -- an expression as it is written, with its brackets
  pub data Tree : Type 0 where
    Word : (name : List ℕ) → Tree
    Underscore : Tree
    Zero : Tree
    Braces : Tree
    Pair : (op : Infix) (a b : Tree) → Tree
    Post : (op : Postfix) (a : Tree) → Tree
    Prefix : (a : Tree) → Tree
    Group : (a : Tree) → Tree
    Square : (a : Tree) → Tree
    Application : (name : List ℕ) (arguments : Trees) → Tree

  -- the arguments of a function, of which there is at least one
  pub data Trees : Type 0 where
    Last : (a : Tree) → Trees
    More : (a : Tree) (others : Trees) → Trees

abbrev pub infix_token : Infix → Token
infix_token Union = tokens.Sign Bar
infix_token Sequence = tokens.Sign Semicolon
infix_token Difference = tokens.Sign Backslash
infix_token Intersection = tokens.Sign Ampersand
infix_token Product = tokens.Star

abbrev pub postfix_token : Postfix → Token
postfix_token postfix.Transitive = tokens.Mark Plus
postfix_token postfix.Reflexive = tokens.Mark Question
postfix_token postfix.Inverse = tokens.Mark Inverse
postfix_token postfix.Closure = tokens.Star

abbrev mutual
  -- the tokens of an expression, and then rest
  pub spelled : Tree → List Token → List Token
  spelled (Word n) rest = tokens.Name n ∷ rest
  spelled Underscore rest = tokens.Underscore ∷ rest
  spelled Zero rest = tokens.Zero ∷ rest
  spelled Braces rest = tokens.OpenBrace ∷ tokens.CloseBrace ∷ rest
  spelled (Pair op a b) rest = spelled a (infix_token op ∷ spelled b rest)
  spelled (Post op a) rest = spelled a (postfix_token op ∷ rest)
  spelled (Prefix a) rest = tokens.Tilde ∷ spelled a rest
  spelled (Group a) rest = tokens.Open ∷ spelled a (tokens.Close ∷ rest)
  spelled (Square a) rest = tokens.OpenSquare ∷ spelled a (tokens.CloseSquare ∷ rest)
  spelled (Application n arguments) rest =
      tokens.Name n ∷ tokens.Open ∷ spelled_arguments arguments rest

  pub spelled_arguments : Trees → List Token → List Token
  spelled_arguments (Last a) rest = spelled a (tokens.Close ∷ rest)
  spelled_arguments (More a others) rest = spelled a (tokens.Comma ∷ spelled_arguments others rest)

abbrev mutual
  -- what it means: the round brackets are gone
  pub meaning : Tree → Term
  meaning (Word n) = value.Atom n
  meaning Underscore = value.AllEvents
  meaning Zero = value.EmptyRelation
  meaning Braces = value.EmptySet
  meaning (Pair op a b) = value.Join op (meaning a) (meaning b)
  meaning (Post op a) = value.Mark op (meaning a)
  meaning (Prefix a) = value.Not (meaning a)
  meaning (Group a) = meaning a
  meaning (Square a) = value.On (meaning a)
  meaning (Application n arguments) = value.Apply n (meanings arguments)

  pub meanings : Trees → Terms
  meanings (Last a) = value.OneMore (meaning a) value.NoTerm
  meanings (More a others) = value.OneMore (meaning a) (meanings others)

-- how tightly an infix operator binds
abbrev pub infix_level : Infix → ℕ
infix_level Union = 1
infix_level Sequence = 2
infix_level Difference = 3
infix_level Intersection = 4
infix_level Product = 5

-- how tight an operand must be: `\` groups to the left, and so takes its own level on the left
-- alone; the others group to the right
abbrev pub left_level : Infix → ℕ
left_level Union = 2
left_level Sequence = 3
left_level Difference = 3
left_level Intersection = 5
left_level Product = 6

abbrev pub right_level : Infix → ℕ
right_level Union = 1
right_level Sequence = 2
right_level Difference = 4
right_level Intersection = 4
right_level Product = 5

abbrev pub tightness : Tree → ℕ
tightness (Word n) = 8
tightness Underscore = 8
tightness Zero = 8
tightness Braces = 8
tightness (Pair op a b) = infix_level op
tightness (Post op a) = 7
tightness (Prefix a) = 6
tightness (Group a) = 8
tightness (Square a) = 8
tightness (Application n arguments) = 8

abbrev mutual
  -- each operand is as tight as its operator wants, or stands in brackets
  pub IsGrouped : Tree → Type 0
  IsGrouped (Word n) = Unit {0}
  IsGrouped Underscore = Unit {0}
  IsGrouped Zero = Unit {0}
  IsGrouped Braces = Unit {0}
  IsGrouped (Pair op a b) =
      (left_level op ≤ tightness a) × (right_level op ≤ tightness b) × IsGrouped a × IsGrouped b
  IsGrouped (Post op a) = (7 ≤ tightness a) × IsGrouped a
  IsGrouped (Prefix a) = (6 ≤ tightness a) × IsGrouped a
  IsGrouped (Group a) = IsGrouped a
  IsGrouped (Square a) = IsGrouped a
  IsGrouped (Application n arguments) = AreGrouped arguments

  pub AreGrouped : Trees → Type 0
  AreGrouped (Last a) = IsGrouped a
  AreGrouped (More a others) = IsGrouped a × AreGrouped others

abbrev mutual
  -- how many brackets and prefixes are open at once
  pub depth : Tree → ℕ
  depth (Word n) = 0
  depth Underscore = 0
  depth Zero = 0
  depth Braces = 0
  depth (Pair op a b) = max (depth a) (depth b)
  depth (Post op a) = depth a
  depth (Prefix a) = depth a + 1
  depth (Group a) = depth a + 1
  depth (Square a) = depth a + 1
  depth (Application n arguments) = depths arguments + 1

  pub depths : Trees → ℕ
  depths (Last a) = depth a
  depths (More a others) = max (depth a) (depths others)

abbrev mutual
  -- how many infix and postfix operators
  pub operators : Tree → ℕ
  operators (Word n) = 0
  operators Underscore = 0
  operators Zero = 0
  operators Braces = 0
  operators (Pair op a b) = operators a + operators b + 1
  operators (Post op a) = operators a + 1
  operators (Prefix a) = operators a
  operators (Group a) = operators a
  operators (Square a) = operators a
  operators (Application n arguments) = operators_of arguments

  pub operators_of : Trees → ℕ
  operators_of (Last a) = operators a
  operators_of (More a others) = operators a + operators_of others

-- How many brackets and prefixes may be open at once, how many operators an expression may have,
-- and how many items a model, names a group and parameters a function.
pub record Limits : Type 0 where
  pub nesting : ℕ
  pub operators : ℕ
  pub items : ℕ
  pub names : ℕ
  pub parameters : ℕ

-- the limits of the language
abbrev pub model_limits : Limits
model_limits = record { nesting = 64; operators = 1024; items = 256; names = 64; parameters = 8 }

pub record IsExpressionTree (most : Limits) (t : Tree) : Type 0 where
  pub grouped : IsGrouped t
  pub shallow : depth t ≤ most.nesting
  pub short : operators t ≤ most.operators

-- ---- items

-- one name of a group, with its body
pub record BindingTree : Type 0 where
  pub name : List ℕ
  pub body : Tree

-- a check without its label
pub record CheckTree : Type 0 where
  pub negated : Bool
  pub word : CheckWord
  pub body : Tree

-- one expression of a show
pub record ShowTree : Type 0 where
  pub body : Tree
  pub label : Option (List ℕ)

pub data ItemTree : Type 0 where
  Let : (recursive : Bool) (group : List BindingTree) → ItemTree
  Function : (name : List ℕ) (parameters : List (List ℕ)) (body : Tree) → ItemTree
  Check : (check : CheckTree) (label : Option (List ℕ)) → ItemTree
  Flag : (check : CheckTree) (label : List ℕ) → ItemTree
  Show : (hidden : Bool) (shown : List ShowTree) → ItemTree
  Include : (path : List ℕ) → ItemTree

abbrev pub spelled_rec : Bool → List Token → List Token
spelled_rec true rest = tokens.Rec ∷ rest
spelled_rec false rest = rest

abbrev pub spelled_tilde : Bool → List Token → List Token
spelled_tilde true rest = tokens.Tilde ∷ rest
spelled_tilde false rest = rest

abbrev pub show_token : Bool → Token
show_token true = tokens.Unshow
show_token false = tokens.Show

abbrev pub spelled_label : Option (List ℕ) → List Token → List Token
spelled_label None rest = rest
spelled_label (Some n) rest = tokens.As ∷ tokens.Name n ∷ rest

abbrev pub spelled_bound : BindingTree → List Token → List Token
spelled_bound b rest = tokens.Name b.name ∷ tokens.Equals ∷ spelled b.body rest

-- the bindings of a group, with `and` between them
abbrev pub spelled_group : List BindingTree → List Token → List Token
spelled_group [] rest = rest
spelled_group (b ∷ []) rest = spelled_bound b rest
spelled_group (b ∷ c ∷ bs) rest = spelled_bound b (tokens.And ∷ spelled_group (c ∷ bs) rest)

-- the parameters of a function, with commas between them
abbrev pub spelled_parameters : List (List ℕ) → List Token → List Token
spelled_parameters [] rest = rest
spelled_parameters (p ∷ []) rest = tokens.Name p ∷ rest
spelled_parameters (p ∷ q ∷ ps) rest =
    tokens.Name p ∷ tokens.Comma ∷ spelled_parameters (q ∷ ps) rest

abbrev pub spelled_check : CheckTree → List Token → List Token
spelled_check c rest = spelled_tilde c.negated (tokens.Check c.word ∷ spelled c.body rest)

abbrev pub spelled_one : ShowTree → List Token → List Token
spelled_one s rest = spelled s.body (spelled_label s.label rest)

-- the expressions of a show, with commas between them
abbrev pub spelled_shown : List ShowTree → List Token → List Token
spelled_shown [] rest = rest
spelled_shown (s ∷ []) rest = spelled_one s rest
spelled_shown (s ∷ u ∷ ss) rest = spelled_one s (tokens.Comma ∷ spelled_shown (u ∷ ss) rest)

-- the tokens of an item, and then rest
abbrev pub spelled_item : ItemTree → List Token → List Token
spelled_item (Let recursive group) rest =
    tokens.Let ∷ spelled_rec recursive (spelled_group group rest)
spelled_item (Function n parameters body) rest =
    tokens.Let ∷ tokens.Name n ∷ tokens.Open
    ∷ spelled_parameters parameters (tokens.Close ∷ tokens.Equals ∷ spelled body rest)
spelled_item (Check c label) rest = spelled_check c (spelled_label label rest)
spelled_item (Flag c label) rest =
    tokens.Flag ∷ spelled_check c (tokens.As ∷ tokens.Name label ∷ rest)
spelled_item (Show hidden shown) rest = show_token hidden ∷ spelled_shown shown rest
spelled_item (Include path) rest = tokens.Include ∷ tokens.Quoted path ∷ rest

abbrev pub group_meaning : List BindingTree → List (List ℕ × Term)
group_meaning [] = []
group_meaning (b ∷ bs) = (b.name, meaning b.body) ∷ group_meaning bs

abbrev pub check_meaning : CheckTree → Checked
check_meaning c = record { negated = c.negated; word = c.word; body = meaning c.body }

abbrev pub shown_meaning : List ShowTree → List (Term × Option (List ℕ))
shown_meaning [] = []
shown_meaning (s ∷ ss) = (meaning s.body, s.label) ∷ shown_meaning ss

abbrev pub item_meaning : ItemTree → Clause
item_meaning (Let recursive group) = value.Binding recursive (group_meaning group)
item_meaning (Function n parameters body) = value.Function n parameters (meaning body)
item_meaning (Check c label) = value.Checking (check_meaning c) label
item_meaning (Flag c label) = value.Flagging (check_meaning c) label
item_meaning (Show hidden shown) = value.Showing hidden (shown_meaning shown)
item_meaning (Include path) = value.Including path

abbrev pub AreBindingTrees : Limits → List BindingTree → Type 0
AreBindingTrees most [] = Unit {0}
AreBindingTrees most (b ∷ bs) = IsExpressionTree most b.body × AreBindingTrees most bs

abbrev pub AreShowTrees : Limits → List ShowTree → Type 0
AreShowTrees most [] = Unit {0}
AreShowTrees most (s ∷ ss) = IsExpressionTree most s.body × AreShowTrees most ss

-- a file that has no effect, whose names need no definition
abbrev pub has_no_effect : List ℕ → Bool
has_no_effect path =
    if bytes_eq path (codes "cos.cat") then true else bytes_eq path (codes "stdlib.cat")

abbrev pub IsItemTree : Limits → ItemTree → Type 0
IsItemTree most (Let recursive group) =
    (0 < length group) × (length group ≤ most.names) × AreBindingTrees most group
IsItemTree most (Function n parameters body) =
    (0 < length parameters) × (length parameters ≤ most.parameters) × IsExpressionTree most body
IsItemTree most (Check c label) = IsExpressionTree most c.body
IsItemTree most (Flag c label) = IsExpressionTree most c.body
IsItemTree most (Show hidden shown) = (0 < length shown) × AreShowTrees most shown
IsItemTree most (Include path) = has_no_effect path ≡ true

-- ---- texts

pub data Title : Type 0 where
  NoTitle : Title
  NameTitle : (name : List ℕ) → Title
  StringTitle : (text : List ℕ) → Title

abbrev pub spelled_title : Title → List Token → List Token
spelled_title NoTitle rest = rest
spelled_title (NameTitle n) rest = tokens.Name n ∷ rest
spelled_title (StringTitle s) rest = tokens.Quoted s ∷ rest

abbrev pub spelled_items : List ItemTree → List Token → List Token
spelled_items [] rest = rest
spelled_items (i ∷ is) rest = spelled_item i (spelled_items is rest)

abbrev pub items_meaning : List ItemTree → List Clause
items_meaning [] = []
items_meaning (i ∷ is) = item_meaning i ∷ items_meaning is

abbrev pub AreItemTrees : Limits → List ItemTree → Type 0
AreItemTrees most [] = Unit {0}
AreItemTrees most (i ∷ is) = IsItemTree most i × AreItemTrees most is

-- a model has a title or none, and items; the text of an item is one item alone
abbrev pub IsFormText : Form → Limits → Title → List ItemTree → Type 0
IsFormText forms.Model most title items = length items ≤ most.items
IsFormText forms.Item most title items = (title ≡ NoTitle) × (length items ≡ 1)

-- these tokens are a text that means these items
pub record Means (most : Limits) (form : Form) (ts : List Token) (v : List Clause) : Type 0 where
  pub title : Title
  pub items : List ItemTree
  pub form_is : IsFormText form most title items
  pub each : AreItemTrees most items
  pub whole : ts ≡ spelled_title title (spelled_items items (tokens.End ∷ []))
  pub meant : items_meaning items ≡ v

-- some text begins with these tokens
pub record BeginsForm (most : Limits) (form : Form) (ts : List Token) : Type 0 where
  pub rest : List Token
  pub items : List Clause
  pub text : Means most form (ts ++ rest) items

-- ---- faults

-- limits that differ in how much may be open or joined alone, or in how many items, names and
-- parameters alone
abbrev pub SameCounts : Limits → Limits → Type 0
SameCounts a b = (a.items ≡ b.items) × (a.names ≡ b.names) × (a.parameters ≡ b.parameters)

abbrev pub SameDepths : Limits → Limits → Type 0
SameDepths a b = (a.nesting ≡ b.nesting) × (a.operators ≡ b.operators)

-- what asks for one more name
abbrev pub IsSeparator : Token → Type 0
IsSeparator tokens.And = Unit {0}
IsSeparator tokens.Comma = Unit {0}
IsSeparator _ = ⊥

-- some text begins so, but that a name more than may be would have to follow the last token
pub record AsksForMore (most : Limits) (form : Form) (ts : List Token) : Type 0 where
  pub earlier : List Token
  pub separator : Token
  pub is_one : IsSeparator separator
  pub split : ts ≡ earlier ++ separator ∷ []
  pub begins : BeginsForm most form earlier
  pub wider : Limits
  pub same : SameDepths most wider
  pub more : BeginsForm wider form ts

-- These tokens can stand where they do: some text begins with them. The name that is one too many
-- is at fault, and not the `and` or the comma before it.
pub data CanStand (most : Limits) (form : Form) (ts : List Token) : Type 0 where
  BeginsText : BeginsForm most form ts → CanStand most form ts
  BeforeAName : AsksForMore most form ts → CanStand most form ts

-- the last token but one and the last, where these came before
abbrev pub last_two : Token → Token → List Token → Token × Token
last_two a b [] = (a, b)
last_two a b (t ∷ ts) = last_two b t ts

abbrev pub last_offset : ℕ → List TokenAt → ℕ
last_offset n [] = n
last_offset n (p ∷ ps) = last_offset p.offset ps

-- the rule of what stands nowhere
abbrev pub broken_rule : Token → Option CatRule
broken_rule (tokens.Broken r) = Some r
broken_rule _ = None

abbrev pub is_include : Token → Bool
is_include tokens.Include = true
is_include _ = false

abbrev pub is_name : Token → Bool
is_name (tokens.Name n) = true
is_name _ = false

abbrev pub is_rec_or_and : Token → Bool
is_rec_or_and tokens.Rec = true
is_rec_or_and tokens.And = true
is_rec_or_and _ = false

abbrev pub is_tilde : Token → Bool
is_tilde tokens.Tilde = true
is_tilde _ = false

abbrev pub is_check : Token → Bool
is_check (tokens.Check w) = true
is_check _ = false

-- The rule that a token of the grammar breaks after these two where no limits help: another file
-- after `include`, a parenthesis after `rec` or `and` and a name, or the grammar alone.
abbrev pub plain_rule : Token × Token → Token → CatRule
plain_rule p (tokens.Quoted path) = if is_include p.1 then rules.Include else rules.Syntax
plain_rule p tokens.Open =
    if is_name p.1 && is_rec_or_and p.0 then rules.Unsupported else rules.Syntax
plain_rule p _ = rules.Syntax

-- the offset of the first token of an item that this token is seen to begin, or to go on with after
-- `~`
abbrev pub first_offset : List TokenAt → TokenAt → ℕ
first_offset before here =
    if is_check here.token && is_tilde ((last_two tokens.End tokens.End (model_tokens_of before)).1) then last_offset
    0 before
    else here.offset

-- The rule that a token breaks, and the offset that is at fault.
pub data BreaksRule (most : Limits) (form : Form) (before : List TokenAt) (here : TokenAt)
    (rule : CatRule) (offset : ℕ) : Type 0 where
  -- it stands nowhere
  Nowhere : broken_rule here.token ≡ Some rule → offset ≡ here.offset
      → BreaksRule most form before here rule offset
  -- it can stand if there may be more items, names or parameters: the first token of what is too
  -- many is at fault
  TooMany : (wider : Limits) → SameDepths most wider
      → BeginsForm wider form (model_tokens_of before ++ here.token ∷ []) → rule ≡ rules.TooMany
      → offset ≡ first_offset before here → BreaksRule most form before here rule offset
  -- it can stand if more may be open or joined
  TooDeep : (wider : Limits) → SameCounts most wider
      → BeginsForm wider form (model_tokens_of before ++ here.token ∷ []) → rule ≡ rules.TooDeep
      → offset ≡ here.offset → BreaksRule most form before here rule offset
  -- it can stand under no limits
  Plain : ((wider : Limits) → BeginsForm wider form (model_tokens_of before ++ here.token ∷ []) → ⊥)
      → broken_rule here.token ≡ None
      → rule ≡ plain_rule (last_two tokens.End tokens.End (model_tokens_of before)) here.token
      → offset ≡ here.offset → BreaksRule most form before here rule offset

-- The tokens before some token can stand, and with it they cannot: this rule is broken, at this
-- offset.
pub record IsFormFault (most : Limits) (form : Form) (ps : List TokenAt) (rule : CatRule)
    (offset : ℕ) : Type 0 where
  pub before : List TokenAt
  pub here : TokenAt
  pub after : List TokenAt
  pub split : ps ≡ before ++ here ∷ after
  pub stand : CanStand most form (model_tokens_of before)
  pub ends : CanStand most form (model_tokens_of before ++ here.token ∷ []) → ⊥
  pub refusal : BreaksRule most form before here rule offset
