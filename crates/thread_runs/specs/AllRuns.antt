-- All runs of a thread over a list of values, in order.
use Rattle.std.specs.Prelude.{Vec, slice_get, slice_index_or, replicate, ℕ, ◌≡◌, Bool, true, false, List, [], ◌∷◌, ◌++◌, map, take, length, Option, Some, None, if◌then◌else◌, Contains}
use Rattle.std.specs.List.{flat_map}
use Rattle.std.specs.declared.alloc.Global.{Global}
use Rattle.thread_runs.specs.declared.value.Value.{Value}
use Rattle.thread_runs.specs.declared.value.Value.TheVariants.{Number, Address, NoValue}
use Rattle.thread_runs.specs.declared.instruction.Instruction.{Instruction}
use Rattle.thread_runs.specs.declared.instruction.Line.{Line}
use Rattle.thread_runs.specs.declared.instruction.Line.TheVariants.{Label, Does}
use Rattle.thread_runs.specs.declared.state.State.{State}
use Rattle.thread_runs.specs.Machine.{address_of, is_load, is_fault, takes_branch}
use Rattle.thread_runs.specs.declared.value.Comparison.TheVariants.{Equal}
use Rattle.thread_runs.specs.declared.instruction.Program.{Program}
use Rattle.thread_runs.specs.declared.instruction.Event.{Event}
use Rattle.thread_runs.specs.declared.instruction.RunStep.{RunStep}
use Rattle.thread_runs.specs.declared.run.Run as made
use Rattle.thread_runs.specs.Runs.{Walk, Run, Thread, AreThreadRuns, walk_at, ended, walk_after, walk_past}

-- the beginning of a run: the values that its loads took, and whether it stopped at a fault
pub record Beginning : Type 0 where
  pub values : List Value
  pub stopped : Bool
  pub walk : Walk

abbrev pub beginning_at : State → Beginning
beginning_at s = record { values = []; stopped = false; walk = walk_at s }

-- an instruction that is no load
abbrev pub over_instruction : Bool → Instruction → Beginning → Beginning
over_instruction true i b = record b { stopped = true }
over_instruction false i b =
    record b { walk = walk_after i (takes_branch i b.walk.state) NoValue b.walk }

abbrev pub beginning_past : Option ℕ → Line → Beginning → Beginning
beginning_past (Some l) x b = record b { walk = walk_past x l b.walk }
beginning_past None (Label m) b = b
beginning_past None (Does i) b = over_instruction (is_fault i b.walk.state) i b

abbrev pub gone_over : Line → Beginning → Beginning
gone_over x b = if b.stopped then b else beginning_past b.walk.seeking x b

-- whether the run goes on by executing an instruction, which is a fault or not
abbrev pub is_executing : Bool → Option ℕ → Bool → Bool
is_executing false None false = true
is_executing _ _ _ = false

abbrev pub executes : Instruction → Beginning → Bool
executes i b = is_executing b.stopped b.walk.seeking (is_fault i b.walk.state)

-- the load takes the value
abbrev pub with_load : Instruction → Beginning → Value → Beginning
with_load i b v =
    record { values = b.values ++ v ∷ []; stopped = false; walk = walk_after i false v b.walk }

abbrev pub spread : List Value → Instruction → Beginning → List Beginning
spread V i b = if executes i b then map (with_load i b) V else gone_over (Does i) b ∷ []

-- what the beginning becomes by one line
abbrev pub next : List Value → Line → Beginning → List Beginning
next V (Label m) b = gone_over (Label m) b ∷ []
next V (Does i) b = if is_load i then spread V i b else gone_over (Does i) b ∷ []

-- what it becomes by all lines
abbrev pub all_from : List Value → List Line → Beginning → List Beginning
all_from V [] b = b ∷ []
all_from V (x ∷ xs) b = flat_map (all_from V xs) (next V x b)

-- the same where a load takes only what its location may hold, as far as that is given, by location
abbrev pub values_or : List Value → Option (Vec Value Global) → List Value
values_or V None = V
values_or V (Some vs) = vs.items

abbrev pub served : List Value → List (Vec Value Global) → Value → List Value
served V held (Address location) = values_or V (slice_get held location)
served V held _ = V

abbrev pub spread_over : List Value → List (Vec Value Global) → Instruction → Beginning
    → List Beginning
spread_over V held i b =
    if executes i b then map (with_load i b) (served V held (address_of i b.walk.state))
    else gone_over (Does i) b ∷ []

abbrev pub next_over : List Value → List (Vec Value Global) → Line → Beginning → List Beginning
next_over V held (Label m) b = gone_over (Label m) b ∷ []
next_over V held (Does i) b =
    if is_load i then spread_over V held i b else gone_over (Does i) b ∷ []

abbrev pub all_over : List Value → List (Vec Value Global) → List Line → Beginning → List Beginning
all_over V held [] b = b ∷ []
all_over V held (x ∷ xs) b = flat_map (all_over V held xs) (next_over V held x b)

-- a beginning that is whole is a run
abbrev pub whole : Beginning → Run
whole b = record { values = b.values; outcome = ended b.stopped b.walk }

-- what a run shows
pub record ShownRun : Type 0 where
  pub values : List Value
  pub steps : List RunStep
  pub events : List Event
  pub registers : List Value
  pub faulted : Bool

-- its events, of which at most 128 are kept
abbrev pub shown_run : Run → ShownRun
shown_run r = record {
  values = r.values;
  steps = r.outcome.walk.steps;
  events = take 128 r.outcome.walk.events;
  registers = r.outcome.walk.state.registers;
  faulted = r.outcome.faulted;
}

abbrev pub shown_whole : Beginning → ShownRun
shown_whole b = shown_run (whole b)

abbrev pub run_shown : made.Run → ShownRun
run_shown r =
    record {
      values = r.values.items;
      steps = r.steps.items;
      events = r.events.items;
      registers = r.registers;
      faulted = r.faulted;
    }

-- the list shows all runs of the thread whose loads take these values, in order
abbrev pub ShowsRuns : Thread → List Value → List made.Run → Type 0
ShowsRuns t V runs =
    (all : List Run) × AreThreadRuns t (Contains V) all × (map run_shown runs ≡ map shown_run all)

-- how many runs a thread has over these values
abbrev pub HasRuns : Thread → List Value → ℕ → Type 0
HasRuns t V n = (all : List Run) × AreThreadRuns t (Contains V) all × (length all ≡ n)

-- the thread of a program, with the state in which it begins
abbrev pub lines_at : Option (Vec Line Global) → List Line
lines_at None = []
lines_at (Some v) = v.items

abbrev pub first_of : Program → ℕ → State
first_of p t =
    record {
      registers = slice_index_or p.registers.items t (replicate 32 (Number 0));
      compared = Equal;
    }

abbrev pub thread_of : Program → ℕ → Thread
thread_of p t = record { lines = lines_at (slice_get p.threads.items t); first = first_of p t }
