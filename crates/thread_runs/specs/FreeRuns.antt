-- All free runs of a thread over a list of values, and how many there are.
use Rattle.std.specs.Prelude.{ℕ, ◌≡◌, ◌≤◌, ◌↔◌, ◌+◌, ◌*◌, Bool, true, false, List, [], ◌∷◌, Option, Some, None, if◌then◌else◌, Contains, All, length, drop, min, slice_index_or}
use Rattle.std.specs.List.{AllPairs}
use Rattle.thread_runs.specs.declared.value.Value.{Value}
use Rattle.thread_runs.specs.declared.instruction.Instruction.{Instruction}
use Rattle.thread_runs.specs.declared.instruction.Line.{Line}
use Rattle.thread_runs.specs.declared.instruction.Line.TheVariants.{Label, Does}
use Rattle.thread_runs.specs.Machine.{is_load, is_branch, branch_target}
use Rattle.thread_runs.specs.Runs.{RunOutcome, Thread, found_at, free_run_of}

-- a free run with its choices and its values
pub record FreeRun : Type 0 where
  pub choices : List Bool
  pub values : List Value
  pub outcome : RunOutcome

-- the free run is one of the thread, and takes values with the property
abbrev pub IsFreeRun : Thread → (Value → Type 0) → FreeRun → Type 0
IsFreeRun t P r = All P r.values × (free_run_of t.lines t.first r.choices r.values ≡ Some r.outcome)

-- two free runs differ where their choices or their values do
abbrev pub IsOtherFreeRun : FreeRun → FreeRun → Type 0
IsOtherFreeRun r s = r.choices ≡ s.choices → r.values ≡ s.values → ⊥

-- the list has just the free runs of the thread over the values with the property, each once
pub record AreFreeRuns (t : Thread) (P : Value → Type 0) (runs : List FreeRun) : Type 0 where
  pub once : AllPairs IsOtherFreeRun runs
  pub exact : (r : FreeRun) → Contains runs r ↔ IsFreeRun t P r

abbrev pub HasFreeRuns : Thread → List Value → ℕ → Type 0
HasFreeRuns t V n = (all : List FreeRun) × AreFreeRuns t (Contains V) all × (length all ≡ n)

-- how many there are over so many values: no state plays a part
abbrev pub sized : ℕ → Instruction → ℕ → ℕ
sized size i n = if is_load i then size * n else n

abbrev pub count_one : ℕ → Option ℕ → Line → (Option ℕ → ℕ) → ℕ
count_one size (Some l) x go = go (found_at x l)
count_one size None (Label m) go = go None
count_one size None (Does i) go =
    if is_branch i then go (branch_target i true) + go (branch_target i false)
    else sized size i (go (branch_target i false))

abbrev pub count_free : ℕ → List Line → Option ℕ → ℕ
count_free size [] seeking = 1
count_free size (x ∷ xs) seeking = count_one size seeking x (count_free size xs)

-- counts stop at one more than the greatest number of free runs of a thread
abbrev pub capped : ℕ → ℕ
capped n = min n 4097

-- the counts of what goes on from each index, from an index on
abbrev pub AreCounts : List Line → ℕ → List ℕ → ℕ → Type 0
AreCounts lines size counts from =
    (k : ℕ) → from ≤ k → k ≤ length lines
    → slice_index_or counts k 0 ≡ capped (count_free size (drop k lines) None)
