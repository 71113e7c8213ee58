-- What a text means, without where it lies in memory.
use Rattle.std.specs.Prelude.{ℕ, List, [], ◌∷◌, Bool, Option}
use Rattle.text_values.specs.declared.model.CheckWord.{CheckWord}
use Rattle.text_values.specs.declared.model.Infix.{Infix}
use Rattle.text_values.specs.declared.model.Postfix.{Postfix}

mutual
  -- an expression
  pub data Term : Type 0 where
    Atom : (name : List ℕ) → Term
    AllEvents : Term
    EmptyRelation : Term
    EmptySet : Term
    Join : (op : Infix) (a b : Term) → Term
    Mark : (op : Postfix) (a : Term) → Term
    Not : (a : Term) → Term
    On : (a : Term) → Term
    Apply : (name : List ℕ) (arguments : Terms) → Term

  -- the arguments of a function
  pub data Terms : Type 0 where
    NoTerm : Terms
    OneMore : (a : Term) (others : Terms) → Terms

abbrev pub gathered : List Term → Terms
gathered [] = NoTerm
gathered (a ∷ others) = OneMore a (gathered others)

-- a check, without its label
pub record Checked : Type 0 where
  pub negated : Bool
  pub word : CheckWord
  pub body : Term

-- an item
pub data Clause : Type 0 where
  Binding : (recursive : Bool) (group : List (List ℕ × Term)) → Clause
  Function : (name : List ℕ) (parameters : List (List ℕ)) (body : Term) → Clause
  Checking : (check : Checked) (label : Option (List ℕ)) → Clause
  Flagging : (check : Checked) (label : List ℕ) → Clause
  Showing : (hidden : Bool) (shown : List (Term × Option (List ℕ))) → Clause
  Including : (path : List ℕ) → Clause
