-- Two orders of stores that begin alike.
use Rattle.std.specs.Prelude.{ℕ, ◌≡◌, ◌<◌, ◌≤◌, List, Some, slice_get}
use Rattle.bit_rows.specs.Relation.{Events, IsMember, IsEvents}
use Rattle.store_orders.specs.declared.combination.Event.{Event}
use Rattle.base_names.specs.Events.{CoherenceFrom}

-- the event stands in the order at an index from one on
abbrev pub StandsFrom : List ℕ → ℕ → ℕ → Type 0
StandsFrom order from a = (j : ℕ) × (from ≤ j) × (slice_get order j ≡ Some a)

-- it stands there below an end
abbrev pub StandsBetween : List ℕ → ℕ → ℕ → ℕ → Type 0
StandsBetween order from end a = (j : ℕ) × (from ≤ j) × (j < end) × (slice_get order j ≡ Some a)

-- the pairs with a first store at an index from one on
abbrev pub CoherenceSince : List Event → List ℕ → ℕ → ℕ → ℕ → Type 0
CoherenceSince events order from a b = (i : ℕ) × (from ≤ i) × CoherenceFrom events order i a b

-- those with a first store below an end
abbrev pub CoherenceBetween : List Event → List ℕ → ℕ → ℕ → ℕ → ℕ → Type 0
CoherenceBetween events order from end a b =
    (i : ℕ) × (from ≤ i) × (i < end) × CoherenceFrom events order i a b

-- both orders begin alike below the start, the same events below n stand behind, and none of these
-- stands before
pub record IsTail (previous order : List ℕ) (n start : ℕ) (stores : Events) : Type 0 where
  pub alike : (i : ℕ) → i < start → slice_get previous i ≡ slice_get order i
  pub now : IsEvents stores n (λ a. (a < n) × StandsFrom order start a)
  pub before : IsEvents stores n (λ a. (a < n) × StandsFrom previous start a)
  pub apart : (i a : ℕ) → i < start → slice_get order i ≡ Some a → IsMember stores a → ⊥
