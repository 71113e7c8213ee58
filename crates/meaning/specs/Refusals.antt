-- When a test is refused: E1 to E6, in the order in which they are looked for. Read next: Outcome.
use Rattle.std.specs.Prelude.{ℕ, ◌≡◌, ◌<◌, ◌≤◌, ◌+◌, length, true, Contains}
use Rattle.text_values.specs.TestValue.{Content}
use Rattle.meaning.specs.Sets.{HasOver}
use Rattle.meaning.specs.Names.{locations}
use Rattle.meaning.specs.Machine.{Value, is_load}
use Rattle.meaning.specs.Runs.{Run}
use Rattle.meaning.specs.Domain.{FreeRun, IsFreeRun, InRound, instruction_count}
use Rattle.meaning.specs.Dependencies.{is_event}
use Rattle.meaning.specs.Executions.{Execution, AreRuns, IsExecution}

-- E1 to E6.
pub data Refusal : Type 0 where
  TooManyEvents : Refusal
  TooManyValues : Refusal
  TooManyRuns : Refusal
  TooManyCandidates : Refusal
  AddressFault : Refusal
  TooManyCombinations : Refusal

-- how many events the text has: its locations, and the loads, stores and fences of all threads
abbrev pub event_count : Content → ℕ
event_count t = length (locations t) + instruction_count is_event t

-- Some thread has over 4,096 free runs over the values after so many rounds.
abbrev pub HasManyFreeRuns : Content → ℕ → Type 0
HasManyFreeRuns t k =
    (thread : ℕ) × (thread < length t.threads)
    × HasOver 4096 (λ (f : FreeRun). IsFreeRun t (InRound t k) thread f)

-- There are over 16 values after so many rounds.
abbrev pub HasManyValues : Content → ℕ → Type 0
HasManyValues t k = HasOver 16 (λ (v : Value). InRound t k v)

-- The values after so many rounds are refused: there are too many, or else their free runs are.
abbrev pub IsRefusedAt : Content → ℕ → Refusal → Type 0
IsRefusedAt t k TooManyValues = HasManyValues t k
IsRefusedAt t k TooManyRuns = (HasManyValues t k → ⊥) × HasManyFreeRuns t k
IsRefusedAt t k _ = ⊥

-- The values after so many rounds are the first that are refused. There are as many rounds as the
-- text has loads, and the values before the first are looked at too.
pub record IsFirstRefused (t : Content) (k : ℕ) (r : Refusal) : Type 0 where
  pub bound : k ≤ instruction_count is_load t
  pub before : (j : ℕ) (q : Refusal) → j < k → IsRefusedAt t j q → ⊥
  pub refused : IsRefusedAt t k r

-- Some run of some execution stopped at a fault.
abbrev pub HasFault : Content → Type 0
HasFault t =
    (x : Execution) × IsExecution t x × ((r : Run) × Contains x.runs r × (r.faulted ≡ true))

-- There is no E1.
abbrev pub HasFewEvents : Content → Type 0
HasFewEvents t = event_count t ≤ 128

-- There is no E1, E2 or E3.
abbrev pub HasDomain : Content → Type 0
HasDomain t =
    HasFewEvents t
    × ((k : ℕ) (r : Refusal) → k ≤ instruction_count is_load t → IsRefusedAt t k r → ⊥)

-- There is no E1, E2, E3 or E6.
abbrev pub HasFewCombinations : Content → Type 0
HasFewCombinations t = HasDomain t × (HasOver 1048576 (AreRuns t) → ⊥)

-- There is no E1, E2, E3, E6 or E4.
abbrev pub HasFewExecutions : Content → Type 0
HasFewExecutions t = HasFewCombinations t × (HasOver 16384 (IsExecution t) → ⊥)

-- The test is refused so.
abbrev pub IsRefusal : Content → Refusal → Type 0
IsRefusal t TooManyEvents = 128 < event_count t
IsRefusal t TooManyValues = HasFewEvents t × ((k : ℕ) × IsFirstRefused t k TooManyValues)
IsRefusal t TooManyRuns = HasFewEvents t × ((k : ℕ) × IsFirstRefused t k TooManyRuns)
IsRefusal t TooManyCombinations = HasDomain t × HasOver 1048576 (AreRuns t)
IsRefusal t TooManyCandidates = HasFewCombinations t × HasOver 16384 (IsExecution t)
IsRefusal t AddressFault = HasFewExecutions t × HasFault t

-- The test is not refused.
abbrev pub IsAccepted : Content → Type 0
IsAccepted t = HasFewExecutions t × (HasFault t → ⊥)
