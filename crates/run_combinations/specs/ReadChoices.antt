-- Read choices: for each load of a combination of runs the store that it reads.
use Rattle.std.specs.Prelude.{Bool, false, ◌&&◌, nat_eq, filter, ℕ, ◌≡◌, ◌<◌, ◌≤◌, List, [], ◌∷◌, ◌++◌, map, length, slice_index, slice_index_or, Option, None, Some, Contains}
use Rattle.bit_rows.specs.Pairs.{Union, IsAcyclic}
pub use Rattle.thread_runs.specs.LocationValues.{same_value}
use Rattle.store_orders.specs.Lists.{tuples, IsFiltered}
use Rattle.store_orders.specs.Events.{numbers, is_load, is_store, ReadsFrom}
use Rattle.store_orders.specs.declared.combination.Action.{Action}
use Rattle.store_orders.specs.declared.combination.Action.TheVariants as actions
use Rattle.store_orders.specs.declared.combination.Event.{Event}

-- the loads, by their numbers in event order, the stores that each may read, and which stores there
-- are, and which loads the value of a store needs
pub record Accesses : Type 1 where
  pub loads : List ℕ
  pub sources : List (List ℕ)
  pub Store : ℕ → Type 0
  pub Need : ℕ → ℕ → Type 0

-- the load at an index may read the store
abbrev pub MayReadFrom : Accesses → ℕ → ℕ → Type 0
MayReadFrom g i s = Contains (slice_index_or g.sources i []) s

-- what is read together with what is needed has no cycle
abbrev pub IsReadChoice : Accesses → List ℕ → Type 0
IsReadChoice g reads_from = IsAcyclic (Union g.Need (ReadsFrom g.loads reads_from))

-- the value of the event can arise, where the first loads read what `reads_from` says and the
-- others some store that they may read, and where one load is left out, if any: that of a store
-- once those that it needs have arisen, that of a load once that of the store that it reads has
pub data Derived (g : Accesses) (reads_from : List ℕ) (without : Option ℕ) : ℕ → Type 0 where
  stored : {x : ℕ} → g.Store x → ((a : ℕ) → g.Need a x → Derived g reads_from without a)
      → Derived g reads_from without x
  read : {x : ℕ} (i : ℕ) → i < length g.loads → (without ≡ Some i → ⊥) → x ≡ slice_index g.loads i
      → i < length reads_from → Derived g reads_from without (slice_index reads_from i)
      → Derived g reads_from without x
  chosen : {x : ℕ} (i s : ℕ) → i < length g.loads → (without ≡ Some i → ⊥)
      → x ≡ slice_index g.loads i → length reads_from ≤ i → MayReadFrom g i s
      → Derived g reads_from without s → Derived g reads_from without x

-- the first loads read stores that they may, and all loads can
pub record IsPossible (g : Accesses) (reads_from : List ℕ) : Type 0 where
  pub few : length reads_from ≤ length g.loads
  pub allowed : (i : ℕ) → i < length reads_from → MayReadFrom g i (slice_index reads_from i)
  pub arises : (i : ℕ) → i < length g.loads → Derived g reads_from None (slice_index g.loads i)

-- each access is an event, and is either one load or a store; a load reads stores, and a store
-- needs loads
pub record AreProperAccesses (n : ℕ) (g : Accesses) : Type 0 where
  pub paired : length g.sources ≡ length g.loads
  pub loads_within : (i : ℕ) → i < length g.loads → slice_index g.loads i < n
  pub apart : (i j : ℕ) → i < length g.loads → j < length g.loads
      → slice_index g.loads i ≡ slice_index g.loads j → i ≡ j
  pub stores_within : (x : ℕ) → g.Store x → x < n
  pub never_both : (i : ℕ) → i < length g.loads → g.Store (slice_index g.loads i) → ⊥
  pub sources : (i s : ℕ) → i < length g.loads → MayReadFrom g i s → g.Store s
  pub needed : (a x : ℕ) → g.Need a x → (i : ℕ) × (i < length g.loads) × (a ≡ slice_index g.loads i)
  pub needing : (a x : ℕ) → g.Need a x → g.Store x

-- the prefix with each of the choices behind it
abbrev pub nexts : List ℕ → List ℕ → List (List ℕ)
nexts choices prefix = map (λ x. prefix ++ x ∷ []) choices

-- a load may read the stores of its location and value
abbrev pub may_read : Action → Action → Bool
may_read (actions.Load location value) (actions.Store written_to written) =
    nat_eq written_to location && same_value written value
may_read _ _ = false

abbrev pub stores_for : List Event → Event → List ℕ
stores_for es load = numbers (λ e. may_read load.action e.action) 0 es

-- the accesses among events, where pairs of a load and a store say which values are needed
abbrev pub accesses_in : List Event → List (ℕ × ℕ) → Accesses
accesses_in es pairs = record {
  loads = numbers is_load 0 es;
  sources = map (stores_for es) (filter is_load es);
  Store = Contains (numbers is_store 0 es);
  Need =
      λ a x. Contains pairs (a, x) × Contains (numbers is_load 0 es) a
      × Contains (numbers is_store 0 es) x;
}

-- the read choices: a store of its location and value for each load, in lexicographic order,
-- without a cycle
abbrev pub AreReadChoices : List Event → List (ℕ × ℕ) → List (List ℕ) → Type 0
AreReadChoices es pairs read_choices =
    IsFiltered (IsReadChoice (accesses_in es pairs)) (tuples [] (accesses_in es pairs).sources)
    read_choices
