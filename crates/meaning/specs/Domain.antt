-- The domain of a test: the values that its loads may take. It is found by free runs, in rounds.
-- Read next: Dependencies.
use Rattle.std.specs.Prelude.{ℕ, zero, suc, ◌≡◌, ◌⊎◌, ◌<◌, length, Bool, true, false, List, [], ◌∷◌, Option, Some, None, Contains, All, count_by, sum_by}
use Rattle.text_values.specs.declared.test.Place.TheVariants as observables
use Rattle.text_values.specs.declared.test.Step.{Step}
use Rattle.text_values.specs.declared.test.Step.TheVariants.{Label, Instruction}
use Rattle.text_values.specs.declared.instruction.Instruction as text
use Rattle.text_values.specs.TestValue.{Content}
use Rattle.meaning.specs.Sets.{Set}
use Rattle.meaning.specs.Names.{Name, locations}
use Rattle.meaning.specs.Machine.{Value, NoValue, State, is_load, is_branch, stored_values}
use Rattle.meaning.specs.Runs.{Instance, Run, end_of_run, run_from, label_after, initial_value, initial_state, lines_of_thread}

-- What the lines from one on do in a free run: a function of the choices that are left too.
abbrev pub FreeRest : Type 0
FreeRest = Option Name → State → List Bool → List Value → Option Run

-- the end of a free run, which there is only where no choice and no value is left over
abbrev pub end_of_free_run : State → List Bool → List Value → Option Run
end_of_free_run s [] vs = end_of_run false s vs
end_of_free_run s (b ∷ bs) vs = None

-- the free run of an instruction, where a branch takes the next choice, and of the rest
abbrev pub free_run_from : Bool → text.Instruction → State → FreeRest → List Bool → List Value
    → Option Run
free_run_from true i s rest [] vs = None
free_run_from true i s rest (b ∷ bs) vs =
    run_from (is_load i) i b s (λ l u us. rest l u bs us) vs
free_run_from false i s rest bs vs =
    run_from (is_load i) i false s (λ l u us. rest l u bs us) vs

-- The free run of these lines: each conditional branch is taken or not as the choices say, and
-- nothing is a fault.
abbrev pub free_run_of : List Step → FreeRest
free_run_of [] seeking s bs vs = end_of_free_run s bs vs
free_run_of (Label m ∷ xs) seeking s bs vs = free_run_of xs (label_after m seeking) s bs vs
free_run_of (Instruction i ∷ xs) (Some l) s bs vs = free_run_of xs (Some l) s bs vs
free_run_of (Instruction i ∷ xs) None s bs vs =
    free_run_from (is_branch i) i s (λ l u cs us. free_run_of xs l u cs us) bs vs

-- A free run: its choices, its values, and what it executes. Two differ where their choices or
-- their values do.
pub record FreeRun : Type 0 where
  pub choices : List Bool
  pub values : List Value
  pub run : Run

-- It is a free run of the thread, whose loads take values of the set.
abbrev pub IsFreeRun : Content → Set Value → ℕ → FreeRun → Type 0
IsFreeRun t V thread f =
    All V f.values
    × (free_run_of (lines_of_thread t thread) None (initial_state t thread) f.choices f.values
    ≡ Some f.run)

-- The run stores the value somewhere.
abbrev pub HasStored : Run → Value → Type 0
HasStored r v =
    (i : Instance) × Contains r.instances i × Contains (stored_values i.instruction i.before) v

-- Some free run of some thread, whose loads take values of the set, stores the value.
abbrev pub IsStoredFreely : Content → Set Value → Value → Type 0
IsStoredFreely t V v =
    (thread : ℕ) × (thread < length t.threads) × (f : FreeRun) × IsFreeRun t V thread f
    × HasStored f.run v

-- Some location of the test holds the value at the start.
abbrev pub IsInitialValue : Content → Value → Type 0
IsInitialValue t v =
    (l : Name) × Contains (locations t) l × (v ≡ initial_value t (observables.Location l))

-- The values after so many rounds. They begin with the initial values, and each round adds what
-- free runs over the values so far store.
abbrev pub InRound : Content → ℕ → Value → Type 0
InRound t zero v = IsInitialValue t v
InRound t (suc k) v =
    InRound t k v ⊎ (IsStoredFreely t (InRound t k) v × (v ≡ NoValue → ⊥))

-- how many instructions of the text pass the test
abbrev pub instruction_count : (text.Instruction → Bool) → Content → ℕ
instruction_count test t = sum_by (λ lines. count_by (is_passed test) lines) t.threads
  where
    is_passed : (text.Instruction → Bool) → Step → Bool
    is_passed p (Label l) = false
    is_passed p (Instruction i) = p i

-- The domain has the values of as many rounds as the text has loads.
abbrev pub InDomain : Content → Value → Type 0
InDomain t v = InRound t (instruction_count is_load t) v
