-- What a store needs: the first step of the law of the domain.
use Rattle.std.specs.Prelude.{ℕ, zero, suc, ◌≡◌, ◌<◌, ◌≤◌, List, [], ◌++◌, ◌+◌, length, IsTrue}
use Rattle.thread_runs.specs.declared.value.Value.{Value}
use Rattle.thread_runs.specs.declared.instruction.Event.{Event}
use Rattle.thread_runs.specs.declared.state.State.{State}
use Rattle.thread_runs.specs.Machine.{state_after, event_of, register, is_load}
use Rattle.thread_runs.specs.Runs.{Walk, executed, loaded_at}
use Rattle.taints.specs.Chains.{Executed, Register, IsNeed, IsStoredRegister}

-- the state before the n-th of these instructions, where each load takes the value given for its
-- index
abbrev pub state_at : Executed → (ℕ → Value) → State → ℕ → State
state_at at loaded s zero = s
state_at at loaded s (suc n) = state_after (at n) (loaded n) (state_at at loaded s n)

-- a stored register has the same value where the loads that the store needs have the same values
abbrev pub StoresTheSame : Executed → State → (ℕ → Value) → (ℕ → Value) → ℕ → Type 0
StoresTheSame at s loaded loaded' j =
    ((i : ℕ) → IsNeed at i j → loaded i ≡ loaded' i)
    → (r : ℕ) → IsStoredRegister (at j) (Register r)
    → register (state_at at loaded s j) r ≡ register (state_at at loaded' s j) r

-- the events of the instructions before an index
abbrev pub events_before : Executed → (ℕ → Value) → State → ℕ → List Event
events_before at loaded s zero = []
events_before at loaded s (suc n) =
    events_before at loaded s n ++ event_of (at n) (loaded n) (state_at at loaded s n)

-- the walk's state and events are those of its steps
pub record IsWalkFrom (s : State) (w : Walk) : Type 0 where
  pub state : w.state ≡ state_at (executed w.steps) (loaded_at w.steps) s (length w.steps)
  pub events : w.events ≡ events_before (executed w.steps) (loaded_at w.steps) s (length w.steps)

-- the second walk begins with the instructions of the first, and its loads among them take what is
-- picked
pub record IsPicked (pick : ℕ → Value) (w u : Walk) : Type 0 where
  pub long : length w.steps ≤ length u.steps
  pub same : (n : ℕ) → n < length w.steps → executed u.steps n ≡ executed w.steps n
  pub picked : (n : ℕ) → n < length w.steps → IsTrue (is_load (executed w.steps n))
      → loaded_at u.steps n ≡ pick n
