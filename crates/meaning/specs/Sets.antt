-- Sets and relations of any things, and the operators of cat on them: each has the name that it has
-- in the syntax. In cat the things are events, and E is the set of those of an execution. Read this
-- file first, and then Names.
use Rattle.std.specs.Prelude.{ℕ, ◌≡◌, ◌⊎◌, ◌↔◌, ◌<◌, List, [], ◌∷◌, length, Contains, All, AllPairs}

-- A set says of each thing when it is a member.
abbrev pub Set : Type 0 → Type 1
Set X = X → Type 0

-- A relation says of each two things when it relates the first to the second.
abbrev pub Relation : Type 0 → Type 1
Relation X = X → X → Type 0

-- `r | s`
abbrev pub Union : {X : Type 0} → Relation X → Relation X → Relation X
Union R S a b = R a b ⊎ S a b

-- `r & s`
abbrev pub Intersection : {X : Type 0} → Relation X → Relation X → Relation X
Intersection R S a b = R a b × S a b

-- `r \ s`
abbrev pub Difference : {X : Type 0} → Relation X → Relation X → Relation X
Difference R S a b = R a b × (S a b → ⊥)

-- `~r`: the pairs of members of E that r does not relate
abbrev pub Complement : {X : Type 0} → Set X → Relation X → Relation X
Complement E R a b = E a × E b × (R a b → ⊥)

-- `[s]`: each member of the set with itself
abbrev pub Identity : {X : Type 0} → Set X → Relation X
Identity S a b = S a × (a ≡ b)

-- `s * t`: each member of the first set with each of the second
abbrev pub Product : {X : Type 0} → Set X → Set X → Relation X
Product S T a b = S a × T b

-- `r^-1`
abbrev pub Inverse : {X : Type 0} → Relation X → Relation X
Inverse R a b = R b a

-- `r ; s`: a step of r, and then one of s
abbrev pub Sequence : {X : Type 0} → Relation X → Relation X → Relation X
Sequence {X} R S a b = (c : X) × R a c × S c b

-- There is a path from one thing to another, through those of the list in order.
abbrev pub Path : {X : Type 0} → Relation X → X → List X → X → Type 0
Path R a [] b = R a b
Path R a (c ∷ cs) b = R a c × Path R c cs b

-- `r+`: one step or more
abbrev pub Transitive : {X : Type 0} → Relation X → Relation X
Transitive {X} R a b = (through : List X) × Path R a through b

-- `r?`: no step or one, where E is all that there is
abbrev pub Reflexive : {X : Type 0} → Set X → Relation X → Relation X
Reflexive E R = Union (Identity E) R

-- `r*`: any number of steps, likewise
abbrev pub Closure : {X : Type 0} → Set X → Relation X → Relation X
Closure E R = Union (Identity E) (Transitive R)

-- The relation relates nothing to itself.
abbrev pub IsIrreflexive : {X : Type 0} → Relation X → Type 0
IsIrreflexive {X} R = (a : X) → R a a → ⊥

-- No path leads back to where it began.
abbrev pub IsAcyclic : {X : Type 0} → Relation X → Type 0
IsAcyclic R = IsIrreflexive (Transitive R)

-- The relation relates nothing.
abbrev pub IsEmpty : {X : Type 0} → Relation X → Type 0
IsEmpty {X} R = (a b : X) → R a b → ⊥

-- No thing stands twice in the list.
abbrev pub IsOnce : {X : Type 0} → List X → Type 0
IsOnce xs = AllPairs (λ x y. x ≡ y → ⊥) xs

-- The list has just the members of the set, each once.
pub record IsListOf {X : Type 0} (S : Set X) (xs : List X) : Type 0 where
  pub once : IsOnce xs
  pub exact : (x : X) → Contains xs x ↔ S x

-- The set has so many members.
abbrev pub HasCount : {X : Type 0} → Set X → ℕ → Type 0
HasCount {X} S n = (xs : List X) × IsListOf S xs × (n ≡ length xs)

-- The set has more members than that.
abbrev pub HasOver : {X : Type 0} → ℕ → Set X → Type 0
HasOver {X} n S = (xs : List X) × IsOnce xs × All S xs × (n < length xs)
