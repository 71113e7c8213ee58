-- What the values of the code mean. Events are numbers. Read next: Scopes.
use Rattle.std.specs.Prelude.{ℕ, List, [], ◌∷◌}
use Rattle.text_values.specs.ModelValue.{Term}
use Rattle.meaning.specs.Sets as sets
use Rattle.meaning.specs.Cat.{Meaning, ASet, ARelation, Nothing, Names, meaning_of}
use Rattle.meaning_laws.specs.Inside.{IsAlike}
use Rattle.meaning_plain.specs.Lists.{SetOf, RelationOf}
use Rattle.plain_models.specs.declared.value.Value.{Value}
use Rattle.plain_models.specs.declared.value.Value.TheVariants as values

-- what a value means
abbrev pub meaning_as : Value → Meaning ℕ
meaning_as (values.Set events) = ASet (SetOf events.items)
meaning_as (values.Relation pairs) = ARelation (RelationOf pairs.items)
meaning_as values.Nothing = Nothing

-- The value is what is meant.
abbrev pub IsEvaluatedTo : Meaning ℕ → Value → Type 0
IsEvaluatedTo m v = IsAlike (meaning_as v) m

-- The expressions mean these values, one by one.
abbrev pub HaveValues : sets.Set ℕ → Names ℕ → List Term → List Value → Type 0
HaveValues all names [] [] = Unit {0}
HaveValues all names (t ∷ ts) (v ∷ vs) =
    IsEvaluatedTo (meaning_of all names t) v × HaveValues all names ts vs
HaveValues all names ts vs = ⊥
