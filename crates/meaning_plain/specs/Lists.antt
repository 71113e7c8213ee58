-- Sets and relations as lists: when a list has just the members of a set, or just the pairs of a
-- relation. Events are numbers here.
use Rattle.std.specs.Prelude.{ℕ, ◌≡◌, ◌↔◌, ◌⊎◌, List, Contains}
use Rattle.meaning.specs.Sets.{Set, Relation}

-- the set of the members of a list
abbrev pub SetOf : List ℕ → Set ℕ
SetOf xs a = Contains xs a

-- the relation whose pairs are those of a list
abbrev pub RelationOf : List (ℕ × ℕ) → Relation ℕ
RelationOf ps a b = Contains ps (a, b)

-- The list has just the members of the set.
abbrev pub HasMembers : Set ℕ → List ℕ → Type 0
HasMembers S xs = (a : ℕ) → Contains xs a ↔ S a

-- The list has just the pairs of the relation.
abbrev pub HasPairs : Relation ℕ → List (ℕ × ℕ) → Type 0
HasPairs R ps = (a b : ℕ) → Contains ps (a, b) ↔ R a b

-- The second list has what the first has, what is new, and nothing else.
pub record Grows {X : Type 0} (New : X → Type 0) (old new : List X) : Type 0 where
  pub exact : (x : X) → Contains new x ↔ (Contains old x ⊎ New x)

-- Some thing of the list gives it.
abbrev pub Given : {X Y : Type 0} → (X → Y → Type 0) → List X → Y → Type 0
Given {X} Gives xs y = (x : X) × Contains xs x × Gives x y

-- A pair is a step that begins there, and is put behind a pair that ends there.
abbrev pub Joins : ℕ → ℕ → ℕ × ℕ → ℕ × ℕ → Type 0
Joins from through step p = (step.0 ≡ through) × (p ≡ (from, step.1))

-- What a pair gives with the steps of a list behind it.
abbrev pub JoinsSteps : List (ℕ × ℕ) → ℕ × ℕ → ℕ × ℕ → Type 0
JoinsSteps steps pair = Given (Joins pair.0 pair.1) steps

-- What a pair gives with the steps of a list behind it, if it ends there.
abbrev pub JoinsThrough : ℕ → List (ℕ × ℕ) → ℕ × ℕ → ℕ × ℕ → Type 0
JoinsThrough k steps pair p = (pair.1 ≡ k) × JoinsSteps steps pair p

-- The pairs of a relation, and those of two of its steps through k.
abbrev pub Through : Relation ℕ → ℕ → Relation ℕ
Through R k a b = R a b ⊎ (R a k × R k b)
