-- Free runs on their way, and what they store.
use Rattle.std.specs.Prelude.{ℕ, ◌≡◌, ◌≤◌, ◌<◌, ◌⊎◌, Bool, true, false, List, [], ◌∷◌, ◌++◌, map, Option, Some, None, Contains, All, length, nat_lt, slice_index_or}
use Rattle.thread_runs.specs.declared.value.Value.{Value}
use Rattle.thread_runs.specs.declared.value.Value.TheVariants.{NoValue}
use Rattle.thread_runs.specs.declared.instruction.Instruction.{Instruction}
use Rattle.thread_runs.specs.declared.instruction.Instruction.TheVariants.{Store, StoreIndexed}
use Rattle.thread_runs.specs.declared.instruction.Line.{Line}
use Rattle.thread_runs.specs.declared.instruction.Line.TheVariants.{Label, Does}
use Rattle.thread_runs.specs.declared.instruction.Event.TheVariants as run_event
use Rattle.thread_runs.specs.declared.state.State.{State}
use Rattle.thread_runs.specs.declared.free.FreeWalk.{FreeWalk}
use Rattle.thread_runs.specs.Machine.{state_after, register, is_load, is_branch, branch_target}
use Rattle.thread_runs.specs.Runs.{RunOutcome, found_at, free_run_of}
use Rattle.thread_runs.specs.FreeRuns.{count_free}
use Rattle.thread_runs.specs.ValueSet.{IsProperValue}

abbrev pub walked : Instruction → Bool → Value → FreeWalk → FreeWalk
walked i b v w = record { state = state_after i v w.state; seeking = branch_target i b }

-- over a line that is passed, or that is no load and no branch
abbrev pub walk_over : Option ℕ → Line → FreeWalk → FreeWalk
walk_over (Some l) x w = record w { seeking = found_at x l }
walk_over None (Label m) w = w
walk_over None (Does i) w = walked i false NoValue w

abbrev pub over : Line → FreeWalk → FreeWalk
over x w = walk_over w.seeking x w

-- what it stores there
abbrev pub values_stored_by : Instruction → State → List Value
values_stored_by (Store d a) s = register s d ∷ []
values_stored_by (StoreIndexed d a b) s = register s d ∷ []
values_stored_by _ s = []

abbrev pub stored_on : Option ℕ → Line → FreeWalk → List Value
stored_on (Some l) x w = []
stored_on None (Label m) w = []
stored_on None (Does i) w = values_stored_by i w.state

abbrev pub values_stored_at : Line → FreeWalk → List Value
values_stored_at x w = stored_on w.seeking x w

-- whether the line is a store
abbrev pub is_store_instruction : Instruction → Bool
is_store_instruction (Store d a) = true
is_store_instruction (StoreIndexed d a b) = true
is_store_instruction _ = false

abbrev pub is_store_line : Line → Bool
is_store_line (Label m) = false
is_store_line (Does i) = is_store_instruction i

-- no line from the one index on, and before the other, is a store
abbrev pub HasNoStore : List Line → ℕ → ℕ → Type 0
HasNoStore lines from to =
    (k : ℕ) (d : Line) → from ≤ k → k < to → is_store_line (slice_index_or lines k d) ≡ false

-- what it becomes by a line: a load takes each value, and a branch goes on, and there, where free
-- runs do
abbrev pub one_if : Bool → FreeWalk → List FreeWalk
one_if true w = w ∷ []
one_if false w = []

abbrev pub branch_walks : Bool → Bool → Instruction → FreeWalk → List FreeWalk
branch_walks on there i w =
    one_if on (walked i false NoValue w) ++ one_if there (walked i true NoValue w)

abbrev pub loaded : List Value → Instruction → FreeWalk → List FreeWalk
loaded V i w = map (λ v. walked i false v w) V

abbrev pub does_next : Bool → Bool → List Value → Bool → Bool → Instruction → FreeWalk
    → List FreeWalk
does_next true branches V on there i w = loaded V i w
does_next false true V on there i w = branch_walks on there i w
does_next false false V on there i w = walked i false NoValue w ∷ []

abbrev pub next_on : List Value → Bool → Bool → Option ℕ → Line → FreeWalk → List FreeWalk
next_on V on there (Some l) x w = walk_over (Some l) x w ∷ []
next_on V on there None (Label m) w = w ∷ []
next_on V on there None (Does i) w = does_next (is_load i) (is_branch i) V on there i w

abbrev pub next_of : List Value → Bool → Bool → Line → FreeWalk → List FreeWalk
next_of V on there x w = next_on V on there w.seeking x w

-- whether free runs go on behind a line
abbrev pub goes_by : ℕ → List Line → Bool → Line → Bool
goes_by size xs jumps (Label m) = false
goes_by size xs jumps (Does i) = nat_lt 0 (count_free size xs (branch_target i jumps))

-- some of the walks stores the value on the line
abbrev pub SomeStores : Line → List FreeWalk → Value → Type 0
SomeStores x walks v = (w : FreeWalk) × Contains walks w × Contains (values_stored_at x w) v

-- some free run of the lines from the state, whose loads take the values, stores the value
abbrev pub Stores : List Line → State → List Value → Value → Type 0
Stores lines first V v =
    (bs : List Bool) × (vs : List Value) × All (Contains V) vs
    × (f : RunOutcome) × (free_run_of lines first bs vs ≡ Some f)
    × (a : Value) × Contains f.walk.events (run_event.Store a v)

-- the values with the property are added, all of them where there are not over 16 values then
pub record AreAdded (P : Value → Type 0) (old new : List Value) : Type 0 where
  pub longer : length old ≤ length new
  pub unchanged : length old ≡ length new → old ≡ new
  pub kept : (v : Value) → Contains old v → Contains new v
  pub sound : (v : Value) → Contains new v → Contains old v ⊎ (P v × IsProperValue v)
  pub whole : length new ≤ 16 → (v : Value) → P v → IsProperValue v → Contains new v
