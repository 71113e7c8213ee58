-- How far the candidates were visited.
use Rattle.std.specs.Prelude.{ℕ, ◌≡◌, ◌-◌, List, length, Some}
use Rattle.cat_machine.specs.declared.seen.NamedColumn.{NamedColumn}
use Rattle.cat_eval.specs.declared.visit.Place.{Place}
use Rattle.cat_machine.specs.Seen.{NamedValues, values_seen, columns_of}
use Rattle.cat_machine.specs.Steady.{IsSteady, HasAsLast}

-- so many were visited; up to where the names stand for what they stood for in the last one; what
-- was seen in it
pub record IsAt (xs : List NamedColumn) (place : Place) (bases : List NamedValues) : Type 0 where
  pub number : place.candidate ≡ length bases
  pub steady : IsSteady (columns_of xs) place.candidate place.steady
  pub last : (n : ℕ) → place.before ≡ Some n → HasAsLast bases (values_seen xs (place.candidate - 1) n)
