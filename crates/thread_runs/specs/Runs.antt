-- The runs of a thread, its free runs, and the domain.
use Rattle.std.specs.Prelude.{ℕ, zero, suc, ◌≡◌, ◌⊎◌, ◌↔◌, ◌<◌, Bool, true, false, nat_eq, List, [], ◌∷◌, ◌++◌, Option, Some, None, if◌then◌else◌, slice_index_or, Contains, All}
use Rattle.thread_runs.specs.declared.value.Value.{Value}
use Rattle.std.specs.List.{AllPairs}
use Rattle.thread_runs.specs.declared.value.Value.TheVariants.{Number, Address, NoValue}
use Rattle.thread_runs.specs.declared.instruction.Instruction.{Instruction}
use Rattle.thread_runs.specs.declared.instruction.Instruction.TheVariants.{Jump}
use Rattle.thread_runs.specs.declared.instruction.Line.{Line}
use Rattle.thread_runs.specs.declared.instruction.Line.TheVariants.{Label, Does}
use Rattle.thread_runs.specs.declared.instruction.RunStep.{RunStep}
use Rattle.thread_runs.specs.declared.instruction.Event.{Event}
use Rattle.thread_runs.specs.declared.instruction.Event.TheVariants.{Store}
pub use Rattle.thread_runs.specs.Machine.{
  State,
  offset,
  state_after,
  event_of,
  is_fault,
  is_load,
  is_branch,
  takes_branch,
  branch_target,
}

-- a thread on its way: the label that it is looking for, and what it has done
pub record Walk : Type 0 where
  pub state : State
  pub seeking : Option ℕ
  pub steps : List RunStep
  pub events : List Event

pub record RunOutcome : Type 0 where
  pub faulted : Bool
  pub walk : Walk

abbrev pub walk_at : State → Walk
walk_at s = record { state = s; seeking = None; steps = []; events = [] }

abbrev pub ended : Bool → Walk → RunOutcome
ended f w = record { faulted = f; walk = w }

-- one instruction more, with the value that it loads, and with its branch taken or not
abbrev pub walk_after : Instruction → Bool → Value → Walk → Walk
walk_after i b v w = record {
  state = state_after i v w.state;
  seeking = branch_target i b;
  steps = w.steps ++ record { instruction = i; loaded = v } ∷ [];
  events = w.events ++ event_of i v w.state;
}

-- a line that is passed over: the label that is looked for is found here
abbrev pub found_at : Line → ℕ → Option ℕ
found_at (Label m) l = if nat_eq l m then None else Some l
found_at (Does i) l = Some l

abbrev pub walk_past : Line → ℕ → Walk → Walk
walk_past x l w = record w { seeking = found_at x l }

-- what comes next: the walk and the values that are left
abbrev pub Continuation : Type 0
Continuation = Walk → List Value → Option RunOutcome

-- the walk ends here, if no value is left
abbrev pub ends : Bool → Continuation
ends f w [] = Some (ended f w)
ends f w (v ∷ vs) = None

-- a load takes the next value
abbrev pub after_load : Bool → Instruction → Bool → Continuation → Continuation
after_load true i b go w [] = None
after_load true i b go w (v ∷ vs) = go (walk_after i b v w) vs
after_load false i b go w vs = go (walk_after i b NoValue w) vs

-- an instruction stops the run if it is a fault
abbrev pub after_instruction : Bool → Instruction → Continuation → Continuation
after_instruction true i go w vs = ends true w vs
after_instruction false i go w vs = after_load (is_load i) i (takes_branch i w.state) go w vs

abbrev pub after_line : Option ℕ → Line → Continuation → Continuation
after_line (Some l) x go w vs = go (walk_past x l w) vs
after_line None (Label m) go w vs = go w vs
after_line None (Does i) go w vs = after_instruction (is_fault i w.state) i go w vs

-- the run whose loads take these values in order, if it executes just as many
abbrev pub run_from : List Line → Continuation
run_from [] w vs = ends false w vs
run_from (x ∷ xs) w vs = after_line w.seeking x (run_from xs) w vs

abbrev pub run_of : List Line → State → List Value → Option RunOutcome
run_of lines s vs = run_from lines (walk_at s) vs

-- a free run: a branch takes the next choice, and nothing is a fault
abbrev pub FreeNext : Type 0
FreeNext = Walk → List Bool → List Value → Option RunOutcome

abbrev pub free_ends : FreeNext
free_ends w [] vs = ends false w vs
free_ends w (b ∷ bs) vs = None

abbrev pub after_free_instruction : Bool → Instruction → FreeNext → FreeNext
after_free_instruction true i go w [] vs = None
after_free_instruction true i go w (b ∷ bs) vs =
    after_load (is_load i) i b (λ u us. go u bs us) w vs
after_free_instruction false i go w bs vs = after_load (is_load i) i false (λ u us. go u bs us) w vs

abbrev pub after_free_line : Option ℕ → Line → FreeNext → FreeNext
after_free_line (Some l) x go w bs vs = go (walk_past x l w) bs vs
after_free_line None (Label m) go w bs vs = go w bs vs
after_free_line None (Does i) go w bs vs = after_free_instruction (is_branch i) i go w bs vs

abbrev pub free_from : List Line → FreeNext
free_from [] w bs vs = free_ends w bs vs
free_from (x ∷ xs) w bs vs = after_free_line w.seeking x (free_from xs) w bs vs

abbrev pub free_run_of : List Line → State → List Bool → List Value → Option RunOutcome
free_run_of lines s bs vs = free_from lines (walk_at s) bs vs

pub record Thread : Type 0 where
  pub lines : List Line
  pub first : State

-- some free run whose loads take values with the property stores the value
abbrev pub StoresFreely : List Thread → (Value → Type 0) → Value → Type 0
StoresFreely threads P v =
    (t : Thread) × Contains threads t × (bs : List Bool) × (vs : List Value) × All P vs
    × (f : RunOutcome) × (free_run_of t.lines t.first bs vs ≡ Some f)
    × (a : Value) × Contains f.walk.events (Store a v)

-- the values after k rounds
abbrev pub InDomain : List Value → List Thread → ℕ → Value → Type 0
InDomain initial threads zero v = Contains initial v
InDomain initial threads (suc k) v =
    InDomain initial threads k v
    ⊎ (StoresFreely threads (InDomain initial threads k) v × (v ≡ NoValue → ⊥))

-- the instruction at an index, and the value that it loaded
abbrev pub no_step : RunStep
no_step = record { instruction = Jump 0; loaded = NoValue }

abbrev pub executed : List RunStep → ℕ → Instruction
executed steps n = (slice_index_or steps n no_step).instruction

abbrev pub loaded_at : List RunStep → ℕ → Value
loaded_at steps n = (slice_index_or steps n no_step).loaded

-- a run with the values that it was given
pub record Run : Type 0 where
  pub values : List Value
  pub outcome : RunOutcome

-- the run is one of the thread, and takes values with the property
abbrev pub IsThreadRun : Thread → (Value → Type 0) → Run → Type 0
IsThreadRun t P r = All P r.values × (run_of t.lines t.first r.values ≡ Some r.outcome)

-- the first list comes before the second where they first differ
abbrev pub IsLexicallyBefore : (Value → Value → Type 0) → List Value → List Value → Type 0
IsLexicallyBefore Lt xs [] = ⊥
IsLexicallyBefore Lt [] (y ∷ ys) = Unit {0}
IsLexicallyBefore Lt (x ∷ xs) (y ∷ ys) = Lt x y ⊎ ((x ≡ y) × IsLexicallyBefore Lt xs ys)

-- numbers first, rising as signed numbers, then addresses
abbrev pub IsLess : Value → Value → Type 0
IsLess (Number m) (Number n) = offset m < offset n
IsLess (Number m) (Address l) = Unit {0}
IsLess (Address k) (Address l) = k < l
IsLess _ _ = ⊥

-- the list has just the runs of the thread over the values with the property, in lexicographic
-- order
pub record AreThreadRuns (t : Thread) (P : Value → Type 0) (runs : List Run) : Type 0 where
  pub rising : AllPairs (λ r s. IsLexicallyBefore IsLess r.values s.values) runs
  pub exact : (r : Run) → Contains runs r ↔ IsThreadRun t P r
