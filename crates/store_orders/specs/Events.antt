-- The events of a run of each thread, and facts of lists of events. The number of an event is its
-- index in such a list. Read it before `Executions`; it names no type but those that the crate
-- shows.
use Rattle.std.specs.Prelude.{ℕ, ◌≡◌, ◌<◌, ◌+◌, ◌⊎◌, Bool, true, false, cond, nat_eq, List, [], ◌∷◌, length, slice_index, Option, Some, None}
use Rattle.std.specs.List.{flat_map, list_any}
use Rattle.thread_runs.specs.declared.value.Value.{Value}
use Rattle.thread_runs.specs.declared.value.Value.TheVariants.{Address}
use Rattle.text_values.specs.declared.instruction.Fence as kinds
use Rattle.thread_runs.specs.Machine as machine
pub use Rattle.thread_runs.specs.FreeWalks.{is_store_instruction}
use Rattle.thread_runs.specs.declared.instruction.Instruction.{Instruction}
use Rattle.thread_runs.specs.declared.instruction.Instruction.TheVariants.{Fence}
use Rattle.thread_runs.specs.declared.instruction.Event as run
use Rattle.thread_runs.specs.declared.instruction.Event.TheVariants as run_event
use Rattle.store_orders.specs.declared.combination.Action.{Action}
use Rattle.store_orders.specs.declared.combination.Action.TheVariants as actions
use Rattle.store_orders.specs.declared.combination.Event.{Event}

-- what an event of a run does: an access by the number of its location, or a fence
abbrev pub action_in : run.Event → Option Action
action_in (run_event.Load (Address location) value) = Some (actions.Load location value)
action_in (run_event.Store (Address location) value) = Some (actions.Store location value)
action_in (run_event.Fence fence) = Some (actions.Fence fence)
action_in _ = None

abbrev pub with_action : ℕ → Option Action → List Event
with_action thread None = []
with_action thread (Some action) = record { thread = Some thread; action = action } ∷ []

-- the events of a run of a thread, in program order
abbrev pub thread_events : ℕ → List run.Event → List Event
thread_events thread es = flat_map (λ e. with_action thread (action_in e)) es

-- the initial stores: each location, from this one on, with the value that it holds
abbrev pub initial_stores : ℕ → List Value → List Event
initial_stores location [] = []
initial_stores location (v ∷ vs) =
    record { thread = None; action = actions.Store location v } ∷ initial_stores (location + 1) vs

-- loads, stores, and stores to a location
abbrev pub is_load_action : Action → Bool
is_load_action (actions.Load location value) = true
is_load_action (actions.Store location value) = false
is_load_action (actions.Fence fence) = false

abbrev pub is_store_action : Action → Bool
is_store_action (actions.Load location value) = false
is_store_action (actions.Store location value) = true
is_store_action (actions.Fence fence) = false

abbrev pub is_store_to : ℕ → Action → Bool
is_store_to location (actions.Load read_from value) = false
is_store_to location (actions.Store written_to value) = nat_eq written_to location
is_store_to location (actions.Fence fence) = false

abbrev pub is_load : Event → Bool
is_load e = is_load_action e.action

abbrev pub is_store : Event → Bool
is_store e = is_store_action e.action

-- the numbers of the events that pass the test, where the first one has the number `at`
abbrev pub numbers : (Event → Bool) → ℕ → List Event → List ℕ
numbers test at [] = []
numbers test at (e ∷ es) = cond (test e) (at ∷ numbers test (at + 1) es) (numbers test (at + 1) es)

-- no store stands twice in the list
abbrev pub has_store : List ℕ → ℕ → Bool
has_store stores store = list_any (λ y. nat_eq y store) stores

abbrev pub AreDistinct : List ℕ → Type 0
AreDistinct [] = Unit {0}
AreDistinct (x ∷ xs) = (has_store xs x ≡ false) × AreDistinct xs

-- the pairs of a store and a load that reads it, where `reads_from` has the store that each of the
-- loads reads
abbrev pub ReadsFrom : List ℕ → List ℕ → ℕ → ℕ → Type 0
ReadsFrom loads reads_from a b =
    (i : ℕ) × (i < length reads_from) × (i < length loads) × (a ≡ slice_index reads_from i)
    × (b ≡ slice_index loads i)

-- there is a load, or a store, of the location and value
abbrev pub HasLoad : ℕ → Value → List Event → Type 0
HasLoad location value [] = ⊥
HasLoad location value (e ∷ es) =
    (e.action ≡ actions.Load location value) ⊎ HasLoad location value es

abbrev pub HasStore : ℕ → Value → List Event → Type 0
HasStore location value [] = ⊥
HasStore location value (e ∷ es) =
    (e.action ≡ actions.Store location value) ⊎ HasStore location value es

-- some load has a location and a value that no store has
abbrev pub CannotRead : List Event → Type 0
CannotRead es =
    (location : ℕ) × (value : Value) × HasLoad location value es × (HasStore location value es → ⊥)

-- the kind of event that an instruction makes
abbrev pub fence_of_instruction : Instruction → Option kinds.Fence
fence_of_instruction (Fence fence) = Some fence
fence_of_instruction _ = None

-- the event is one of the thread, and of the kind of the instruction
pub record IsKind (thread : ℕ) (i : Instruction) (e : Event) : Type 0 where
  pub of_thread : e.thread ≡ Some thread
  pub loads : machine.is_load i ≡ true → is_load e ≡ true
  pub stores : is_store_instruction i ≡ true → is_store e ≡ true
  pub fences : (fence : kinds.Fence) → fence_of_instruction i ≡ Some fence
      → e.action ≡ actions.Fence fence
