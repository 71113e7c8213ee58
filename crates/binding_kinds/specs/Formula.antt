-- An expression whose names are resolved and in which each application stands as the body of its
-- function, with the arguments in the places of the parameters.
use Rattle.std.specs.Prelude.{ℕ, ◌+◌, ◌<◌, List, [], ◌∷◌, ◌++◌, nat_eq, if◌then◌else◌, get_or}
use Rattle.text_values.specs.declared.model.Infix.{Infix}
use Rattle.text_values.specs.declared.model.Postfix.{Postfix}
use Rattle.binding_kinds.specs.declared.scope.Found.{Found}
use Rattle.binding_kinds.specs.declared.function.Piece.{Piece}
use Rattle.binding_kinds.specs.declared.function.Piece.TheVariants as pieces

pub data Formula : Type 0 where
  Value : (found : Found) → Formula
  Parameter : (index : ℕ) → Formula
  Everything : Formula
  NoPairs : Formula
  NoEvents : Formula
  Joined : (op : Infix) (a b : Formula) → Formula
  Marked : (op : Postfix) (a : Formula) → Formula
  Complement : (a : Formula) → Formula
  Identity : (a : Formula) → Formula

-- with each parameter replaced by its argument
abbrev pub filled : List Formula → Formula → Formula
filled arguments (Value f) = Value f
filled arguments (Parameter index) = get_or arguments index NoPairs
filled arguments Everything = Everything
filled arguments NoPairs = NoPairs
filled arguments NoEvents = NoEvents
filled arguments (Joined op a b) = Joined op (filled arguments a) (filled arguments b)
filled arguments (Marked op a) = Marked op (filled arguments a)
filled arguments (Complement a) = Complement (filled arguments a)
filled arguments (Identity a) = Identity (filled arguments a)

-- how many of its names, signs and operators are no parameter
abbrev pub constant_of : Formula → ℕ
constant_of (Value f) = 1
constant_of (Parameter index) = 0
constant_of Everything = 1
constant_of NoPairs = 1
constant_of NoEvents = 1
constant_of (Joined op a b) = constant_of a + constant_of b + 1
constant_of (Marked op a) = constant_of a + 1
constant_of (Complement a) = constant_of a + 1
constant_of (Identity a) = constant_of a + 1

-- how often the parameter stands in it
abbrev pub factor_of : Formula → ℕ → ℕ
factor_of (Value f) index = 0
factor_of (Parameter other) index = if nat_eq other index then 1 else 0
factor_of Everything index = 0
factor_of NoPairs index = 0
factor_of NoEvents index = 0
factor_of (Joined op a b) index = factor_of a index + factor_of b index
factor_of (Marked op a) index = factor_of a index
factor_of (Complement a) index = factor_of a index
factor_of (Identity a) index = factor_of a index

-- its parameters are among so many
abbrev pub HasParameters : ℕ → Formula → Type 0
HasParameters arity (Value f) = Unit {0}
HasParameters arity (Parameter index) = index < arity
HasParameters arity Everything = Unit {0}
HasParameters arity NoPairs = Unit {0}
HasParameters arity NoEvents = Unit {0}
HasParameters arity (Joined op a b) = HasParameters arity a × HasParameters arity b
HasParameters arity (Marked op a) = HasParameters arity a
HasParameters arity (Complement a) = HasParameters arity a
HasParameters arity (Identity a) = HasParameters arity a

-- in postfix order
abbrev pub postfix : Formula → List Piece
postfix (Value f) = pieces.Value f ∷ []
postfix (Parameter index) = pieces.Parameter index ∷ []
postfix Everything = pieces.Everything ∷ []
postfix NoPairs = pieces.NoPairs ∷ []
postfix NoEvents = pieces.NoEvents ∷ []
postfix (Joined op a b) = postfix a ++ (postfix b ++ pieces.Joined op ∷ [])
postfix (Marked op a) = postfix a ++ pieces.Marked op ∷ []
postfix (Complement a) = postfix a ++ pieces.Complement ∷ []
postfix (Identity a) = postfix a ++ pieces.Identity ∷ []
