-- What the names of a group stand for. Read next: Items.
use Rattle.std.specs.Prelude.{ℕ, ◌≡◌, ◌↔◌, ◌⊎◌, ◌<◌, List, [], ◌∷◌, ◌++◌, length, map, true, Contains}
use Rattle.text_values.specs.declared.model.Binding as code_binding
use Rattle.text_values.specs.ModelValue.{Term, Clause, Binding}
use Rattle.text_values.specs.ModelValues.{term_of}
use Rattle.meaning.specs.Sets as sets
use Rattle.meaning.specs.Sets.{Relation}
use Rattle.meaning.specs.Names.{Name}
use Rattle.meaning.specs.Cat.{Names, ARelation, meaning_of, HasPair, with_group, Choice, IsChosen}
use Rattle.meaning_laws.specs.RisingLaws.{IsChoiceInside}
use Rattle.plain_models.specs.declared.value.Value.{Value}
use Rattle.plain_models.specs.declared.value.Value.TheVariants as values
use Rattle.plain_models.specs.Values.{IsEvaluatedTo, HaveValues}

abbrev pub name_of : code_binding.Binding → Name
name_of b = b.name

abbrev pub body_of : code_binding.Binding → Term
body_of b = term_of b.body

-- The values are the relations of these names.
abbrev pub AreRelations : (Name → Relation ℕ) → List Name → List Value → Type 0
AreRelations R [] [] = Unit {0}
AreRelations R (n ∷ ns) (v ∷ vs) = IsEvaluatedTo (ARelation (R n)) v × AreRelations R ns vs
AreRelations R ns vs = ⊥

-- No name stands twice.
abbrev pub AreApart : List Name → Type 0
AreApart [] = Unit {0}
AreApart (n ∷ ns) = (Contains ns n → ⊥) × AreApart ns

-- Where the names of a group stand for more, its bodies give no less.
abbrev pub DoesGrow : sets.Set ℕ → Names ℕ → List (Name × Term) → Type 0
DoesGrow all names group =
    (c d : Choice ℕ) → IsChoiceInside c d → (b : Name × Term) → Contains group b → (x y : ℕ)
    → HasPair (meaning_of all (with_group (IsChosen c) group names) b.1) x y
    → HasPair (meaning_of all (with_group (IsChosen d) group names) b.1) x y

-- Behind these names the item is no recursive group, or one whose solution is found by rounds.
abbrev pub IsSolvable : sets.Set ℕ → Names ℕ → Clause → Type 0
IsSolvable all names (Binding true group) =
    AreApart (map (λ b. b.0) group) × DoesGrow all names group
IsSolvable all names _ = Unit {0}

-- the pairs of a value; a set has none
abbrev pub pairs_of : Value → List (ℕ × ℕ)
pairs_of (values.Relation pairs) = pairs.items
pairs_of _ = []

-- The value is a relation.
abbrev pub IsOfPairs : Value → Type 0
IsOfPairs (values.Relation pairs) = Unit {0}
IsOfPairs _ = ⊥

-- The list has the pairs of both, those of the first before the others.
pub record Extends (old more new : List (ℕ × ℕ)) : Type 0 where
  pub behind : (added : List (ℕ × ℕ)) × (new ≡ old ++ added)
  pub exact : (p : ℕ × ℕ) → Contains new p ↔ (Contains old p ⊎ Contains more p)

-- The third values are relations with the pairs of the first and of the second, one by one.
abbrev pub DoExtend : List Value → List Value → List Value → Type 0
DoExtend [] [] [] = Unit {0}
DoExtend (v ∷ vs) (m ∷ ms) (w ∷ ws) =
    IsOfPairs w × Extends (pairs_of v) (pairs_of m) (pairs_of w) × DoExtend vs ms ws
DoExtend vs ms ws = ⊥

-- Some value has more pairs in the second list than in the first.
abbrev pub HasGrown : List Value → List Value → Type 0
HasGrown (v ∷ vs) (w ∷ ws) = (length (pairs_of v) < length (pairs_of w)) ⊎ HasGrown vs ws
HasGrown vs ws = ⊥

-- The next values are the first with what the expressions mean under these names.
abbrev pub IsRound : sets.Set ℕ → Names ℕ → List Term → List Value → List Value → Type 0
IsRound all names ts vs next =
    (bodies : List Value) × HaveValues all names ts bodies × DoExtend vs bodies next
