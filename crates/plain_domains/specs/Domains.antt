-- What the code answers of the domain of a test.
use Rattle.std.specs.Prelude.{ℕ, ◌≡◌, ◌⊎◌, ◌↔◌, ◌<◌, ◌≤◌, List, map, length, Contains, Result, Ok, Err, Option, Some, None, Vec}
use Rattle.std.specs.declared.alloc.Global.{Global}
use Rattle.text_values.specs.declared.test.Place.TheVariants as observables
use Rattle.text_values.specs.TestValue.{Content}
use Rattle.meaning.specs.Sets.{Set, IsOnce, IsListOf, HasOver}
use Rattle.meaning.specs.Names.{Name}
use Rattle.meaning.specs.Machine as machine
use Rattle.meaning.specs.Machine.{NoValue, stored_values}
use Rattle.meaning.specs.Runs.{Instance, Run, initial_value}
use Rattle.meaning.specs.Domain.{FreeRun, IsFreeRun, InRound, InDomain, IsStoredFreely}
use Rattle.meaning.specs.Refusals.{Refusal, TooManyEvents, TooManyValues, TooManyRuns, TooManyCandidates, AddressFault, TooManyCombinations, HasDomain, IsRefusal, IsRefusedAt}
use Rattle.meaning_plain.specs.Lists.{Given}
use Rattle.plain_machine.specs.declared.value.Value.{Value}
use Rattle.plain_machine.specs.Values.{value_as}
use Rattle.plain_runs.specs.Runs.{ValuesOf}
use Rattle.plain_domains.specs.declared.domain.Refusal as code
use Rattle.plain_domains.specs.declared.domain.Refusal.TheVariants as refusals

-- The second list has what the first has, what is new, and nothing else; nothing of it stands twice
-- if nothing of the first does.
pub record Adds (New : Set machine.Value) (old new : List Value) : Type 0 where
  pub once : IsOnce (map value_as old) → IsOnce (map value_as new)
  pub exact : (v : machine.Value) → ValuesOf new v ↔ (ValuesOf old v ⊎ New v)

-- The location holds the value at the start.
abbrev pub IsStartOf : Content → Name → Set machine.Value
IsStartOf t l v = initial_value t (observables.Location l) ≡ v

-- It is this value, and one.
abbrev pub IsReal : machine.Value → Set machine.Value
IsReal w v = (w ≡ v) × (v ≡ NoValue → ⊥)

-- The instance stores the value, and it is one.
abbrev pub IsStoredBy : Instance → Set machine.Value
IsStoredBy i v = Contains (stored_values i.instruction i.before) v × (v ≡ NoValue → ⊥)

-- The run stores the value somewhere, and it is one.
abbrev pub IsStoredIn : Run → Set machine.Value
IsStoredIn r = Given IsStoredBy r.instances

-- The set has the values of V, and those that free runs over V store.
abbrev pub InNext : Content → Set machine.Value → Set machine.Value
InNext t V v = V v ⊎ (IsStoredFreely t V v × (v ≡ NoValue → ⊥))

-- Some thread has over 4,096 free runs over the values.
abbrev pub HasManyFreeRunsOver : Content → Set machine.Value → Type 0
HasManyFreeRunsOver t V =
    (thread : ℕ) × (thread < length t.threads)
    × HasOver 4096 (λ (f : FreeRun). IsFreeRun t V thread f)

-- The list has the values of the next round, unless some thread has too many free runs.
abbrev pub IsNextRound : Content → Set machine.Value → Option (Vec Value Global) → Type 0
IsNextRound t V (Some next) =
    (HasManyFreeRunsOver t V → ⊥) × IsListOf (InNext t V) (map value_as next.items)
IsNextRound t V None = HasManyFreeRunsOver t V

abbrev pub refusal_as : code.Refusal → Refusal
refusal_as refusals.TooManyEvents = TooManyEvents
refusal_as refusals.TooManyValues = TooManyValues
refusal_as refusals.TooManyRuns = TooManyRuns
refusal_as refusals.TooManyCandidates = TooManyCandidates
refusal_as refusals.AddressFault = AddressFault
refusal_as refusals.TooManyCombinations = TooManyCombinations

-- The values are refused: there are too many, or else their free runs are.
abbrev pub IsRefusedOver : Content → Set machine.Value → Refusal → Type 0
IsRefusedOver t V TooManyValues = HasOver 16 V
IsRefusedOver t V TooManyRuns = (HasOver 16 V → ⊥) × HasManyFreeRunsOver t V
IsRefusedOver t V _ = ⊥

-- The list has the values of the next round, or these are refused so.
abbrev pub IsRoundFound : Content → Set machine.Value → Result (Vec Value Global) code.Refusal → Type 0
IsRoundFound t V (Ok next) =
    ((r : Refusal) → IsRefusedOver t V r → ⊥) × IsListOf (InNext t V) (map value_as next.items)
IsRoundFound t V (Err r) = IsRefusedOver t V (refusal_as r)

-- The list has the values after so many rounds, which are not refused, or some are refused so.
abbrev pub AreRounds : Content → ℕ → Result (Vec Value Global) code.Refusal → Type 0
AreRounds t n (Ok values) =
    ((k : ℕ) (r : Refusal) → k ≤ n → IsRefusedAt t k r → ⊥)
    × IsListOf (InRound t n) (map value_as values.items)
AreRounds t n (Err r) =
    (k : ℕ) × (k ≤ n) × ((j : ℕ) (q : Refusal) → j < k → IsRefusedAt t j q → ⊥)
    × IsRefusedAt t k (refusal_as r)

-- The list has the values of the domain, or the test has no domain and is refused so.
abbrev pub IsDomainFound : Content → Result (Vec Value Global) code.Refusal → Type 0
IsDomainFound t (Ok values) = HasDomain t × IsListOf (InDomain t) (map value_as values.items)
IsDomainFound t (Err r) = (HasDomain t → ⊥) × IsRefusal t (refusal_as r)
