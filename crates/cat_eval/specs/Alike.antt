-- Combinations of runs that differ in values alone.
use Rattle.std.specs.Prelude.{ℕ, ◌≡◌, ◌<◌, List, length, slice_index_or}
use Rattle.taints.specs.DependencyLists.{dependency_lists}
use Rattle.store_orders.specs.declared.combination.Action.{Action}
use Rattle.store_orders.specs.declared.combination.Action.TheVariants.{Load, Store, Fence}
use Rattle.store_orders.specs.declared.combination.Combination.{Combination}
use Rattle.store_orders.specs.declared.combination.Event.{Event}

-- of one kind and one location
abbrev pub IsActionLike : Action → Action → Type 0
IsActionLike (Load l v) (Load m w) = l ≡ m
IsActionLike (Load l v) (Store m w) = ⊥
IsActionLike (Load l v) (Fence g) = ⊥
IsActionLike (Store l v) (Load m w) = ⊥
IsActionLike (Store l v) (Store m w) = l ≡ m
IsActionLike (Store l v) (Fence g) = ⊥
IsActionLike (Fence f) (Load m w) = ⊥
IsActionLike (Fence f) (Store m w) = ⊥
IsActionLike (Fence f) (Fence g) = f ≡ g

-- and of one thread
abbrev pub IsLike : Event → Event → Type 0
IsLike e f = (e.thread ≡ f.thread) × IsActionLike e.action f.action

abbrev pub AreEventsLike : List Event → List Event → Type 0
AreEventsLike es fs =
    (length es ≡ length fs)
    × ((i : ℕ) → i < length es → (d : Event)
    → IsLike (slice_index_or es i d) (slice_index_or fs i d))

-- the events are alike one by one, and the dependencies are the same
pub record AreAlike (c d : Combination) : Type 0 where
  pub events : AreEventsLike c.events.items d.events.items
  pub dependencies : dependency_lists c.dependencies ≡ dependency_lists d.dependencies
