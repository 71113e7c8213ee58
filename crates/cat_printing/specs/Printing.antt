-- The text of an item and of a model.
use Rattle.std.specs.Prelude.{ℕ, List, [], ◌∷◌, ◌++◌, map, Bool, true, false, Option, Some, None, codes}
use Rattle.text_values.specs.Joined.{joined, bracketed}
use Rattle.text_values.specs.declared.model.CheckWord.{CheckWord}
use Rattle.text_values.specs.declared.model.CheckWord.TheVariants.{Acyclic, Irreflexive, Empty}
use Rattle.text_values.specs.declared.model.Infix.{Infix}
use Rattle.text_values.specs.declared.model.Infix.TheVariants.{Union, Sequence, Difference, Intersection, Product}
use Rattle.text_values.specs.declared.model.Postfix.{Postfix}
use Rattle.text_values.specs.declared.model.Postfix.TheVariants as postfix
use Rattle.text_values.specs.ModelValue.{Term, Terms, Atom, AllEvents, EmptyRelation, EmptySet, Join, Mark, Not, On, Apply, NoTerm, OneMore, Checked, Clause, Binding, Function, Checking, Flagging, Showing, Including}

-- texts one a line
abbrev pub lines : List (List ℕ) → List ℕ
lines [] = []
lines (t ∷ ts) = t ++ (10 ∷ lines ts)

-- ---- expressions

-- one space round an infix operator
abbrev pub infix_text : Infix → List ℕ
infix_text Union = codes " | "
infix_text Sequence = codes " ; "
infix_text Difference = 32 ∷ 92 ∷ 32 ∷ []
infix_text Intersection = codes " & "
infix_text Product = codes " * "

abbrev pub postfix_text : Postfix → List ℕ
postfix_text postfix.Transitive = codes "+"
postfix_text postfix.Reflexive = codes "?"
postfix_text postfix.Inverse = codes "^-1"
postfix_text postfix.Closure = codes "*"

abbrev pub is_binary : Term → Bool
is_binary (Join op a b) = true
is_binary _ = false

-- no atom
abbrev pub is_compound : Term → Bool
is_compound (Join op a b) = true
is_compound (Mark op a) = true
is_compound (Not a) = true
is_compound _ = false

abbrev mutual
  -- an infix operand of an infix operator or of a tilde stands in parentheses, and so does the
  -- operand of a postfix operator that is no atom
  pub printed_term : Term → List ℕ
  printed_term (Atom n) = n
  printed_term AllEvents = codes "_"
  printed_term EmptyRelation = codes "0"
  printed_term EmptySet = codes "{}"
  printed_term (Join op a b) =
      bracketed (is_binary a) (printed_term a)
      ++ (infix_text op ++ bracketed (is_binary b) (printed_term b))
  printed_term (Mark op a) = bracketed (is_compound a) (printed_term a) ++ postfix_text op
  printed_term (Not a) = codes "~" ++ bracketed (is_binary a) (printed_term a)
  printed_term (On a) = codes "[" ++ (printed_term a ++ codes "]")
  printed_term (Apply n arguments) =
      n ++ (codes "(" ++ (joined (codes ", ") (printed_terms arguments) ++ codes ")"))

  pub printed_terms : Terms → List (List ℕ)
  printed_terms NoTerm = []
  printed_terms (OneMore a others) = printed_term a ∷ printed_terms others

-- ---- items

abbrev pub label_text : List ℕ → List ℕ
label_text n = codes " as " ++ n

abbrev pub optional_label : Option (List ℕ) → List ℕ
optional_label None = []
optional_label (Some n) = label_text n

abbrev pub tilde_text : Bool → List ℕ
tilde_text true = codes "~"
tilde_text false = []

abbrev pub word_text : CheckWord → List ℕ
word_text Acyclic = codes "acyclic "
word_text Irreflexive = codes "irreflexive "
word_text Empty = codes "empty "

abbrev pub check_text : Checked → List ℕ
check_text c = tilde_text c.negated ++ (word_text c.word ++ printed_term c.body)

abbrev pub recursion_text : Bool → List ℕ
recursion_text true = codes "rec "
recursion_text false = []

abbrev pub binding_text : List ℕ × Term → List ℕ
binding_text b = b.0 ++ (codes " = " ++ printed_term b.1)

abbrev pub show_text : Bool → List ℕ
show_text true = codes "unshow "
show_text false = codes "show "

abbrev pub shown_text : Term × Option (List ℕ) → List ℕ
shown_text s = printed_term s.0 ++ optional_label s.1

abbrev pub quote : List ℕ
quote = 34 ∷ []

-- one space round `=`, after words and after commas
abbrev pub printed_item : Clause → List ℕ
printed_item (Binding recursive group) =
    codes "let " ++ (recursion_text recursive ++ joined (codes " and ") (map binding_text group))
printed_item (Function name parameters body) =
    codes "let " ++ (name
    ++ (codes "(" ++ (joined (codes ", ") parameters ++ (codes ") = " ++ printed_term body))))
printed_item (Checking check label) = check_text check ++ optional_label label
printed_item (Flagging check label) = codes "flag " ++ (check_text check ++ label_text label)
printed_item (Showing hidden shown) = show_text hidden ++ joined (codes ", ") (map shown_text shown)
printed_item (Including path) = codes "include " ++ (quote ++ (path ++ quote))

-- the items, one a line
abbrev pub printed_model : List Clause → List ℕ
printed_model items = lines (map printed_item items)
