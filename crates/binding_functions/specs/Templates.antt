-- The lists in postfix order that are kept of expressions with the functions that they apply put
-- in.
use Rattle.std.specs.Prelude.{◌≡◌, ℕ, ◌<◌, ◌⊎◌, List, [], ◌∷◌, ◌++◌, length, true, false, get_or}
use Rattle.text_values.specs.ModelValue.{Term, Atom, AllEvents, EmptyRelation, EmptySet, Join, Mark, Not, On, Apply}
use Rattle.binding_kinds.specs.declared.function.Piece.{Piece}
use Rattle.binding_kinds.specs.declared.function.Piece.TheVariants as pieces
use Rattle.binding_kinds.specs.Value.{Naming}
use Rattle.binding_kinds.specs.Formula.{postfix}
use Rattle.binding_kinds.specs.Senses.{Sense}
use Rattle.binding_kinds.specs.Functions.{formula_in}
use Rattle.binding_functions.specs.declared.template.Template.{Template}

-- an expression in postfix order
abbrev pub pieces_in : List Sense → List Naming → List (List ℕ) → Term → List Piece
pieces_in ss names ps t = postfix (formula_in ss names ps t)

-- an application, outside the arguments of others, is larger than it may be
abbrev pub HasLarge : List Sense → List Naming → List (List ℕ) → Term → Type 0
HasLarge ss names ps (Atom x) = ⊥
HasLarge ss names ps AllEvents = ⊥
HasLarge ss names ps EmptyRelation = ⊥
HasLarge ss names ps EmptySet = ⊥
HasLarge ss names ps (Join op a b) = HasLarge ss names ps a ⊎ HasLarge ss names ps b
HasLarge ss names ps (Mark op a) = HasLarge ss names ps a
HasLarge ss names ps (Not a) = HasLarge ss names ps a
HasLarge ss names ps (On a) = HasLarge ss names ps a
HasLarge ss names ps (Apply x ts) = 4096 < length (pieces_in ss names ps (Apply x ts))

-- a piece with each parameter replaced by its argument
abbrev pub piece_with : List (List Piece) → Piece → List Piece
piece_with arguments (pieces.Value f) = pieces.Value f ∷ []
piece_with arguments (pieces.Parameter index) = get_or arguments index (pieces.NoPairs ∷ [])
piece_with arguments pieces.Everything = pieces.Everything ∷ []
piece_with arguments pieces.NoPairs = pieces.NoPairs ∷ []
piece_with arguments pieces.NoEvents = pieces.NoEvents ∷ []
piece_with arguments (pieces.Joined op) = pieces.Joined op ∷ []
piece_with arguments (pieces.Marked op) = pieces.Marked op ∷ []
piece_with arguments pieces.Complement = pieces.Complement ∷ []
piece_with arguments pieces.Identity = pieces.Identity ∷ []

abbrev pub pieces_with : List (List Piece) → List Piece → List Piece
pieces_with arguments [] = []
pieces_with arguments (p ∷ ps) = piece_with arguments p ++ pieces_with arguments ps

-- the template holds the list, unless that is larger than an application may be
pub record IsTemplate (t : Template) (whole : List Piece) : Type 0 where
  pub some : 0 < length whole
  pub fits : t.is_oversized ≡ false → t.pieces.items ≡ whole
  pub large : t.is_oversized ≡ true → 4096 < length whole

-- the template has grown by the list, unless something in it is too large
pub record IsGrown (old new : Template) (more : List Piece) (Large : Type 0) : Type 0 where
  pub fits : new.is_oversized ≡ false
      → (old.is_oversized ≡ false) × (new.pieces.items ≡ old.pieces.items ++ more)
  pub large : new.is_oversized ≡ true → (old.is_oversized ≡ true) ⊎ Large
