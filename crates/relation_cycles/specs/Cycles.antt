-- Cycles of a relation, and how long they are.
use Rattle.std.specs.Prelude.{ℕ, ◌≡◌, ◌<◌, ◌≤◌, ◌⊎◌, List, [], ◌∷◌, length, slice_index_or, Contains}
pub use Rattle.bit_rows.specs.Pairs.{Path, Plus, IsAcyclic}
use Rattle.bit_rows.specs.Relation.{Relation, IsRelation, no_slot}

-- each event of the list is related to the next, and the last to the first: a list of n events is a
-- cycle of n steps
abbrev pub IsCycle : (ℕ → ℕ → Type 0) → List ℕ → Type 0
IsCycle R [] = ⊥
IsCycle R (x ∷ xs) = Path R x xs x

-- the events where the steps of a path begin, the first event first
abbrev pub IsPathFrom : (ℕ → ℕ → Type 0) → ℕ → ℕ → List ℕ → Type 0
IsPathFrom R a b [] = ⊥
IsPathFrom R a b (x ∷ xs) = (x ≡ a) × Path R x xs b

-- the lists are the same, or where they first differ this one has the smaller event; a list that
-- goes on comes later
abbrev pub ComesNoLater : List ℕ → List ℕ → Type 0
ComesNoLater [] others = Unit {0}
ComesNoLater (x ∷ xs) [] = ⊥
ComesNoLater (x ∷ xs) (y ∷ ys) = (x < y) ⊎ ((x ≡ y) × ComesNoLater xs ys)

-- a path such that none from that event to the other has fewer steps; and of those of as many steps
-- the first, event by event
pub record IsShortestPath (R : ℕ → ℕ → Type 0) (a b : ℕ) (events : List ℕ) : Type 0 where
  pub path : IsPathFrom R a b events
  pub least : (others : List ℕ) → IsPathFrom R a b others → length events ≤ length others
  pub first : (others : List ℕ) → IsPathFrom R a b others → length others ≡ length events
      → ComesNoLater events others

-- a cycle that begins at an event
abbrev pub IsCycleFrom : (ℕ → ℕ → Type 0) → ℕ → List ℕ → Type 0
IsCycleFrom R a events = IsPathFrom R a a events

-- a cycle such that none has fewer steps; and of those of as many steps the first, event by event:
-- it begins at the least event of them all, and leads each time to the least event by which one of
-- them goes on
pub record IsShortestCycle (R : ℕ → ℕ → Type 0) (events : List ℕ) : Type 0 where
  pub cycle : IsCycle R events
  pub least : (others : List ℕ) → IsCycle R others → length events ≤ length others
  pub first : (others : List ℕ) → IsCycle R others → length others ≡ length events
      → ComesNoLater events others

-- a cycle that begins at an event, such that none through that event has fewer steps; and of those
-- of as many steps that begin there the first, event by event
pub record IsShortestThrough (R : ℕ → ℕ → Type 0) (a : ℕ) (events : List ℕ) : Type 0 where
  pub cycle : IsCycleFrom R a events
  pub least : (others : List ℕ) → IsCycle R others → Contains others a
      → length events ≤ length others
  pub first : (others : List ℕ) → IsCycleFrom R a others → length others ≡ length events
      → ComesNoLater events others

-- there is a path of at most k steps
pub record IsReachableIn (R : ℕ → ℕ → Type 0) (k a b : ℕ) : Type 0 where
  pub through : List ℕ
  pub short : length through < k
  pub path : Path R a through b

-- the relation at k has the pairs with a path of at most k steps
pub record AreLevels (R : ℕ → ℕ → Type 0) (n : ℕ) (levels : List Relation) : Type 0 where
  pub each : (k : ℕ) → k < length levels
      → IsRelation (slice_index_or levels k no_slot) n (IsReachableIn R k)

-- each path is matched by one of at most k steps
abbrev pub HasShortPaths : (ℕ → ℕ → Type 0) → ℕ → Type 0
HasShortPaths R k = (a b : ℕ) → Plus R a b → IsReachableIn R k a b

-- the least event that is related to itself
pub record IsFirstReflexive (R : ℕ → ℕ → Type 0) (a : ℕ) : Type 0 where
  pub related : R a a
  pub least : (b : ℕ) → b < a → R b b → ⊥

-- the least pair, by its first event and then by its second
pub record IsLeastPair (R : ℕ → ℕ → Type 0) (a b : ℕ) : Type 0 where
  pub related : R a b
  pub first : (x y : ℕ) → x < a → R x y → ⊥
  pub second : (y : ℕ) → y < b → R a y → ⊥

-- ---- what the search keeps

-- each path of at most so many steps comes no earlier
abbrev pub IsFirstUpTo : (ℕ → ℕ → Type 0) → ℕ → ℕ → ℕ → List ℕ → Type 0
IsFirstUpTo R a b steps events =
    (others : List ℕ) → IsPathFrom R a b others → length others ≤ steps → ComesNoLater events others

-- a relation has one shortest cycle that comes first, or none
abbrev pub HasOneShortestCycle : (ℕ → ℕ → Type 0) → Type 0
HasOneShortestCycle R = (xs ys : List ℕ) → IsShortestCycle R xs → IsShortestCycle R ys → xs ≡ ys
