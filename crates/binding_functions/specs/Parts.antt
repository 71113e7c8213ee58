-- What is found of the parts of the body of a function: their first fault, their parameters under a
-- complement, and what they make where the parameters have the kinds of each of the first
-- combinations.
use Rattle.std.specs.Prelude.{◌≡◌, ℕ, ◌<◌, ◌≤◌, List, length, map, Bool, false, None, get_or}
use Rattle.text_values.specs.declared.model.Expression.{Expression}
use Rattle.text_values.specs.ModelValue.{Term, gathered}
use Rattle.text_values.specs.ModelValues.{term_of}
use Rattle.binding_kinds.specs.declared.kinds.Kind.{Kind}
use Rattle.binding_kinds.specs.Value.{Naming}
use Rattle.binding_kinds.specs.Combinations.{unknown}
use Rattle.binding_kinds.specs.Senses.{Sense}
use Rattle.binding_kinds.specs.First.{first_of_body, first_of_bodies}
use Rattle.binding_kinds.specs.Functions.{is_under_in, is_under_among}
use Rattle.binding_kinds.specs.Columns.{IsFilled, plain, none_gathered, signature_in, gathered_in}
use Rattle.binding_functions.specs.declared.part.BodyPart.{BodyPart}
use Rattle.binding_functions.specs.declared.part.BodyArguments.{BodyArguments}

-- a part without names, of that kind, in a body of so many parameters
pub record IsNameless (arity rows : ℕ) (kind : Kind) (p : BodyPart) : Type 0 where
  pub fault : p.fault ≡ None
  pub marks : (index : ℕ) → index < 8 → get_or p.under index false ≡ false
  pub column : IsFilled unknown arity rows (λ kinds. plain kind) p.column.items

-- what is found of an expression, seen under a complement or not
pub record IsBodyPart (ss : List Sense) (names : List Naming) (ps : List (List ℕ)) (rows : ℕ)
    (under : Bool) (t : Term) (p : BodyPart) : Type 0 where
  pub fault : p.fault ≡ first_of_body ss names ps t
  pub marks : (index : ℕ) → index < 8
      → get_or p.under index false ≡ is_under_in ss names ps index under t
  pub column : length ps ≤ 8
      → IsFilled unknown (length ps) rows (signature_in ss names ps t) p.column.items

-- what is found of the arguments of a function, of which some parameters are seen under a
-- complement
pub record AreBodyParts (ss : List Sense) (names : List Naming) (ps : List (List ℕ)) (rows : ℕ)
    (under : Bool) (turned : ℕ → Bool) (xs : List Expression) (a : BodyArguments) : Type 0 where
  pub fault : a.fault ≡ first_of_bodies ss names ps (gathered (map term_of xs))
  pub marks : (index : ℕ) → index < 8
      → get_or a.under index false
      ≡ is_under_among ss names ps index under turned 0 (gathered (map term_of xs))
  pub known : length ps ≤ 8
      → IsFilled none_gathered (length ps) rows
      (gathered_in ss names ps (gathered (map term_of xs))) a.known.items
