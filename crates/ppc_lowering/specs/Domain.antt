-- The domain of a program, and when the program is refused.
use Rattle.std.specs.Prelude.{Vec, vec_len, ℕ, zero, suc, ◌≡◌, ◌≤◌, ◌<◌, ◌+◌, ◌*◌, ◌↔◌, length, Bool, true, false, List, [], ◌∷◌, ◌++◌, Contains, All}
use Rattle.std.specs.List.{sum_by, count_by}
use Rattle.std.specs.declared.alloc.Global.{Global}
use Rattle.thread_runs.specs.declared.value.Value.{Value}
use Rattle.thread_runs.specs.declared.instruction.Instruction.{Instruction}
use Rattle.thread_runs.specs.declared.instruction.Instruction.TheVariants.{Store, StoreIndexed, Fence}
use Rattle.thread_runs.specs.declared.instruction.Line.{Line}
use Rattle.thread_runs.specs.declared.instruction.Line.TheVariants.{Label, Does}
use Rattle.thread_runs.specs.declared.instruction.Program.{Program}
use Rattle.ppc_lowering.specs.declared.fault.EvalRefusal.{EvalRefusal}
use Rattle.ppc_lowering.specs.declared.fault.EvalRefusal.TheVariants.{TooManyEvents, TooManyValues, TooManyRuns, TooManyCandidates, AddressFault, TooManyCombinations}
use Rattle.ppc_lowering.specs.declared.fault.DomainFault.{DomainFault}
use Rattle.ppc_lowering.specs.declared.fault.DomainFault.TheVariants.{Refused, OutOfMemory}
use Rattle.thread_runs.specs.Machine.{is_load}
use Rattle.thread_runs.specs.Runs.{Thread, InDomain}
use Rattle.thread_runs.specs.AllRuns.{HasRuns, thread_of}
use Rattle.thread_runs.specs.FreeRuns.{HasFreeRuns}
use Rattle.thread_runs.specs.ValueSet.{IsProperValue, IsValueSet}

-- the first threads of a program, and all
abbrev pub threads_from : Program → ℕ → List Thread
threads_from p zero = []
threads_from p (suc n) = threads_from p n ++ thread_of p n ∷ []

abbrev pub threads_of : Program → List Thread
threads_of p = threads_from p (vec_len p.threads)

-- the events of the text are its locations, loads, stores and fences
abbrev pub makes_event : Instruction → Bool
makes_event (Store d a) = true
makes_event (StoreIndexed d a b) = true
makes_event (Fence f) = true
makes_event i = is_load i

abbrev pub has_event : Line → Bool
has_event (Label m) = false
has_event (Does i) = makes_event i

abbrev pub has_load : Line → Bool
has_load (Label m) = false
has_load (Does i) = is_load i

abbrev pub lines_with : (Line → Bool) → Program → ℕ
lines_with q p = sum_by (λ (lines : Vec Line Global). count_by q lines.items) p.threads.items

abbrev pub event_total : Program → ℕ
event_total p = length p.locations.items + lines_with has_event p

abbrev pub load_total : Program → ℕ
load_total p = lines_with has_load p

-- the locations hold values at the start
abbrev pub AreProper : Program → Type 0
AreProper p = All IsProperValue p.initial.items

-- a value after so many rounds
abbrev pub InDomainAt : Program → ℕ → Value → Type 0
InDomainAt p k v = InDomain p.initial.items (threads_of p) k v

-- the list has just the values after so many rounds, in their order
pub record IsDomainAt (p : Program) (k : ℕ) (V : List Value) : Type 0 where
  pub set : IsValueSet V
  pub exact : (v : Value) → Contains V v ↔ InDomainAt p k v

-- there are over 16 values after so many rounds
abbrev pub HasManyValues : Program → ℕ → Type 0
HasManyValues p k = (V : List Value) × IsValueSet V × All (InDomainAt p k) V × (16 < length V)

-- there are at most 16, and some thread has over 4,096 free runs over them
pub record HasManyRuns (p : Program) (k : ℕ) : Type 0 where
  pub values : List Value
  pub round : IsDomainAt p k values
  pub few : length values ≤ 16
  pub thread : Thread
  pub there : Contains (threads_of p) thread
  pub runs : ℕ
  pub counted : HasFreeRuns thread values runs
  pub many : 4096 < runs

-- neither
pub record IsBoundedRound (p : Program) (k : ℕ) : Type 0 where
  pub values : List Value
  pub round : IsDomainAt p k values
  pub few : length values ≤ 16
  pub runs : (t : Thread) → Contains (threads_of p) t
      → (n : ℕ) × HasFreeRuns t values n × (n ≤ 4096)

-- the combinations of runs of threads over the values
abbrev pub HasCombinations : List Thread → List Value → ℕ → Type 0
HasCombinations [] V n = n ≡ 1
HasCombinations (t ∷ ts) V n =
    (here : ℕ) × (rest : ℕ) × HasRuns t V here × HasCombinations ts V rest × (n ≡ here * rest)

-- what may be, and why not: before the first round and after each, as many as the text has loads
pub record IsDomain (p : Program) (V : List Value) : Type 0 where
  pub events : event_total p ≤ 128
  pub rounds : (k : ℕ) → k ≤ load_total p → IsBoundedRound p k
  pub last : IsDomainAt p (load_total p) V
  pub combinations : (n : ℕ) × HasCombinations (threads_of p) V n × (n ≤ 1048576)

pub record IsFirstFailure (p : Program) (k : ℕ) (Fails : Program → ℕ → Type 0) : Type 0 where
  pub events : event_total p ≤ 128
  pub bound : k ≤ load_total p
  pub before : (j : ℕ) → j < k → IsBoundedRound p j
  pub fails : Fails p k

pub record HasManyCombinations (p : Program) : Type 0 where
  pub events : event_total p ≤ 128
  pub rounds : (k : ℕ) → k ≤ load_total p → IsBoundedRound p k
  pub values : List Value
  pub last : IsDomainAt p (load_total p) values
  pub combinations : ℕ
  pub counted : HasCombinations (threads_of p) values combinations
  pub many : 1048576 < combinations

-- a domain is not refused for candidates
abbrev pub IsDomainRefusal : Program → EvalRefusal → Type 0
IsDomainRefusal p TooManyEvents = 128 < event_total p
IsDomainRefusal p TooManyValues = (k : ℕ) × IsFirstFailure p k HasManyValues
IsDomainRefusal p TooManyRuns = (k : ℕ) × IsFirstFailure p k HasManyRuns
IsDomainRefusal p TooManyCombinations = HasManyCombinations p
IsDomainRefusal p TooManyCandidates = ⊥
IsDomainRefusal p AddressFault = ⊥

abbrev pub LacksDomain : Program → DomainFault → Type 0
LacksDomain p (Refused r) = IsDomainRefusal p r
LacksDomain p (OutOfMemory e) = Unit {0}

abbrev pub IsDomainMemoryFault : DomainFault → Type 0
IsDomainMemoryFault (Refused r) = ⊥
IsDomainMemoryFault (OutOfMemory e) = Unit {0}

-- the bounds of one round, and which is passed
abbrev pub HasFewRuns : Program → List Value → ℕ → Type 0
HasFewRuns p V k = (j : ℕ) → j < k → (n : ℕ) × HasFreeRuns (thread_of p j) V n × (n ≤ 4096)

abbrev pub IsRoundFault : Program → List Value → DomainFault → Type 0
IsRoundFault p V (Refused TooManyValues) = 16 < length V
IsRoundFault p V (Refused TooManyRuns) =
    (length V ≤ 16) × (j : ℕ) × (j < vec_len p.threads) × (n : ℕ) × HasFreeRuns (thread_of p j) V n
    × (4096 < n)
IsRoundFault p V (Refused _) = ⊥
IsRoundFault p V (OutOfMemory e) = Unit {0}

-- and that of the combinations
abbrev pub IsCombinationFault : Program → List Value → DomainFault → Type 0
IsCombinationFault p V (Refused TooManyCombinations) =
    (n : ℕ) × HasCombinations (threads_of p) V n × (1048576 < n)
IsCombinationFault p V (Refused _) = ⊥
IsCombinationFault p V (OutOfMemory e) = Unit {0}

-- the values after so many rounds, unless there are over 16
pub record IsNextDomain (p : Program) (k : ℕ) (V : List Value) : Type 0 where
  pub set : IsValueSet V
  pub sound : (v : Value) → Contains V v → InDomainAt p k v
  pub whole : length V ≤ 16 → (v : Value) → InDomainAt p k v → Contains V v
