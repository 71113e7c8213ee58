-- Lists in order, each thing once, and states that have an order.
use Rattle.std.specs.Prelude.{ℕ, ◌≡◌, ◌⊎◌, ◌↔◌, List, [], ◌∷◌, length, Contains}
use Rattle.std.specs.List.{AllByRecursion}
use Rattle.meaning.specs.Machine.{Value}
use Rattle.meaning_laws.specs.Words.{IsWord}

-- One comes before the other, or both are one.
abbrev pub Compared : {X : Type 0} → (X → X → Type 0) → X → X → Type 0
Compared Before x y = Before x y ⊎ ((x ≡ y) ⊎ Before y x)

abbrev pub IsAbove : {X : Type 0} → (X → X → Type 0) → X → List X → Type 0
IsAbove {X} Before x ys = (y : X) → Contains ys y → Before x y

-- Each thing comes before those behind it.
abbrev pub Rises : {X : Type 0} → (X → X → Type 0) → List X → Type 0
Rises Before [] = Unit {0}
Rises Before (x ∷ xs) = IsAbove Before x xs × Rises Before xs

-- The list is in order and has one thing more, unless that is there already.
pub record HasOneMore {X : Type 0} (Before : X → X → Type 0) (x : X) (ys zs : List X)
    : Type 0 where
  pub rises : Rises Before zs
  pub exact : (z : X) → Contains zs z ↔ ((x ≡ z) ⊎ Contains ys z)

-- The second list has the things of the first in order.
pub record IsInOrder {X : Type 0} (Before : X → X → Type 0) (xs ys : List X) : Type 0 where
  pub rises : Rises Before ys
  pub exact : (z : X) → Contains ys z ↔ Contains xs z

-- It is a state of words, for so many observables.
pub record IsGood (n : ℕ) (s : List Value) : Type 0 where
  pub words : AllByRecursion IsWord s
  pub count : length s ≡ n
