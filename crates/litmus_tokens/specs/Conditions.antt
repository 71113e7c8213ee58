-- The grammar of places, values and propositions, on whole lists of tokens: a text is what some
-- tree spells. A tree is a text as it is written; what it spells goes before the rest.
use Rattle.std.specs.Prelude.{◌≡◌, ℕ, ◌+◌, ◌<◌, ◌≤◌, List, [], ◌∷◌, Bool, true, false, max, codes, IsTrue}
use Rattle.text_values.specs.declared.test.Place.{Place}
use Rattle.text_values.specs.declared.test.Place.TheVariants as places
use Rattle.text_values.specs.declared.test.Value as declared_value
use Rattle.text_values.specs.declared.test.Value.TheVariants as values
use Rattle.text_values.specs.declared.test.Quantifier.{Quantifier}
use Rattle.text_values.specs.declared.test.Quantifier.TheVariants.{Exists, NotExists, Forall}
use Rattle.text_values.specs.declared.test.Connective.{Connective}
use Rattle.text_values.specs.declared.test.Connective.TheVariants as connectives
use Rattle.text_values.specs.TestValue.{Formula, Constant, Holds, Not, Join, level}
use Rattle.litmus_tokens.specs.declared.token.Token.{Token}
use Rattle.litmus_tokens.specs.declared.token.Token.TheVariants as tokens
use Rattle.litmus_tokens.specs.declared.token.Mark.TheVariants.{OpenBracket, CloseBracket, Open, Close, Colon, Equals, Tilde, And, Or, Implies}
use Rattle.litmus_tokens.specs.Words.{decimal, signed, is_int, register_of, is_register, or_zero}
use Rattle.litmus_tokens.specs.declared.place.WrittenPlace.{WrittenPlace}
use Rattle.litmus_tokens.specs.declared.place.WrittenPlace.TheVariants as written

-- ---- places and values

-- `x`, `[x]` or `0:r1`
pub data PlaceTree : Type 0 where
  Location : (bracketed : Bool) (name : List ℕ) → PlaceTree
  Register : (thread : List ℕ) (register : List ℕ) → PlaceTree

pub data ValueTree : Type 0 where
  Number : (negative : Bool) (digits : List ℕ) → ValueTree
  Address : (name : List ℕ) → ValueTree

abbrev pub spelled_place : PlaceTree → List Token → List Token
spelled_place (Location false n) rest = tokens.Word n ∷ rest
spelled_place (Location true n) rest =
    tokens.Mark OpenBracket ∷ tokens.Word n ∷ tokens.Mark CloseBracket ∷ rest
spelled_place (Register t r) rest = tokens.Number false t ∷ tokens.Mark Colon ∷ tokens.Word r ∷ rest

abbrev pub spelled_value : ValueTree → List Token → List Token
spelled_value (Number negative ds) rest = tokens.Number negative ds ∷ rest
spelled_value (Address n) rest = tokens.Word n ∷ rest

abbrev pub place_meaning : PlaceTree → Place
place_meaning (Location b n) = places.Location n
place_meaning (Register t r) = places.Register (decimal t) (or_zero (register_of r))

-- a place as it is written, its brackets aside: of a thread's number the digits, which no zeros
-- lead
abbrev pub written_place : PlaceTree → WrittenPlace
written_place (Location b n) = written.Location n
written_place (Register t r) = written.Register t (or_zero (register_of r))

abbrev pub value_meaning : ValueTree → declared_value.Value
value_meaning (Number negative ds) = values.Number (signed negative (decimal ds))
value_meaning (Address n) = values.Address n

-- a register is `r0` to `r31`
abbrev pub IsPlaceTree : PlaceTree → Type 0
IsPlaceTree (Location b n) = Unit {0}
IsPlaceTree (Register t r) = IsTrue (is_register r)

-- its thread, if it has one, is one of so many
abbrev pub HasThread : ℕ → PlaceTree → Type 0
HasThread threads (Location b n) = Unit {0}
HasThread threads (Register t r) = decimal t < threads

-- a number is one of 32 bits
abbrev pub IsValueTree : ValueTree → Type 0
IsValueTree (Number negative ds) = IsTrue (is_int negative ds)
IsValueTree (Address n) = Unit {0}

-- ---- propositions

-- a proposition as it is written, with its parentheses
pub data FormulaTree : Type 0 where
  Word : (b : Bool) → FormulaTree
  Atom : (place : PlaceTree) (value : ValueTree) → FormulaTree
  Prefix : (tilde : Bool) (a : FormulaTree) → FormulaTree
  Pair : (op : Connective) (a b : FormulaTree) → FormulaTree
  Group : (a : FormulaTree) → FormulaTree

abbrev pub constant_word : Bool → List ℕ
constant_word true = codes "true"
constant_word false = codes "false"

abbrev pub prefix_token : Bool → Token
prefix_token true = tokens.Mark Tilde
prefix_token false = tokens.Word (codes "not")

abbrev pub connective_token : Connective → Token
connective_token connectives.And = tokens.Mark And
connective_token connectives.Or = tokens.Mark Or
connective_token connectives.Implies = tokens.Mark Implies

-- the tokens of a proposition, and then rest
abbrev pub spelled : FormulaTree → List Token → List Token
spelled (Word b) rest = tokens.Word (constant_word b) ∷ rest
spelled (Atom p v) rest = spelled_place p (tokens.Mark Equals ∷ spelled_value v rest)
spelled (Prefix tilde a) rest = prefix_token tilde ∷ spelled a rest
spelled (Pair op a b) rest = spelled a (connective_token op ∷ spelled b rest)
spelled (Group a) rest = tokens.Mark Open ∷ spelled a (tokens.Mark Close ∷ rest)

-- what it means: the parentheses are gone
abbrev pub tree_formula : FormulaTree → Formula
tree_formula (Word b) = Constant b
tree_formula (Atom p v) = Holds (place_meaning p) (value_meaning v)
tree_formula (Prefix tilde a) = Not (tree_formula a)
tree_formula (Pair op a b) = Join op (tree_formula a) (tree_formula b)
tree_formula (Group a) = tree_formula a

abbrev pub tightness : FormulaTree → ℕ
tightness (Word b) = 5
tightness (Atom p v) = 5
tightness (Prefix tilde a) = 4
tightness (Pair op a b) = level op
tightness (Group a) = 5

-- Each operand is as tight as its place wants, or stands in parentheses. Each operator groups to
-- the right: it takes its own level on the right alone.
abbrev pub IsGrouped : FormulaTree → Type 0
IsGrouped (Word b) = Unit {0}
IsGrouped (Atom p v) = Unit {0}
IsGrouped (Prefix tilde a) = (4 ≤ tightness a) × IsGrouped a
IsGrouped (Pair op a b) =
    (level op + 1 ≤ tightness a) × (level op ≤ tightness b) × IsGrouped a × IsGrouped b
IsGrouped (Group a) = IsGrouped a

-- its atoms are well formed and name existing threads
abbrev pub HasAtoms : ℕ → FormulaTree → Type 0
HasAtoms threads (Word b) = Unit {0}
HasAtoms threads (Atom p v) = IsPlaceTree p × HasThread threads p × IsValueTree v
HasAtoms threads (Prefix tilde a) = HasAtoms threads a
HasAtoms threads (Pair op a b) = HasAtoms threads a × HasAtoms threads b
HasAtoms threads (Group a) = HasAtoms threads a

-- how many parentheses and prefixes are open at once
abbrev pub depth : FormulaTree → ℕ
depth (Word b) = 0
depth (Atom p v) = 0
depth (Prefix tilde a) = depth a + 1
depth (Pair op a b) = max (depth a) (depth b)
depth (Group a) = depth a + 1

-- how many binary operators
abbrev pub operators : FormulaTree → ℕ
operators (Word b) = 0
operators (Atom p v) = 0
operators (Prefix tilde a) = operators a
operators (Pair op a b) = operators a + operators b + 1
operators (Group a) = operators a

pub record Limits : Type 0 where
  pub nesting : ℕ
  pub operators : ℕ

-- the limits of the format
abbrev pub condition_limits : Limits
condition_limits = record { nesting = 64; operators = 1024 }

pub record IsFormulaTree (most : Limits) (threads : ℕ) (t : FormulaTree) : Type 0 where
  pub grouped : IsGrouped t
  pub atoms : HasAtoms threads t
  pub shallow : depth t ≤ most.nesting
  pub short : operators t ≤ most.operators

-- these tokens are a proposition with this meaning, in a test of so many threads, and the end
pub record IsProposition (most : Limits) (threads : ℕ) (ts : List Token) (v : Formula)
    : Type 0 where
  pub tree : FormulaTree
  pub fine : IsFormulaTree most threads tree
  pub whole : ts ≡ spelled tree (tokens.End ∷ [])
  pub meant : tree_formula tree ≡ v

abbrev pub spelled_quantifier : Quantifier → List Token → List Token
spelled_quantifier Exists rest = tokens.Word (codes "exists") ∷ rest
spelled_quantifier NotExists rest = tokens.Mark Tilde ∷ tokens.Word (codes "exists") ∷ rest
spelled_quantifier Forall rest = tokens.Word (codes "forall") ∷ rest

-- the text of a condition alone
pub record IsConditionText (most : Limits) (threads : ℕ) (ts : List Token) : Type 0 where
  pub quantifier : Quantifier
  pub condition : FormulaTree
  pub fine : IsFormulaTree most threads condition
  pub whole : ts ≡ spelled_quantifier quantifier (spelled condition (tokens.End ∷ []))
