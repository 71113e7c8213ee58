-- What the kept executions of a test say: final states with counts, witnesses, the Observation, the
-- verdict and the flags. Read next: Evaluates.
use Rattle.std.specs.Prelude.{ℕ, zero, suc, ◌≡◌, ◌⊎◌, ◌↔◌, ◌<◌, nat_eq, nat_lt, bytes_eq, ◌==◌, ◌&&◌, ◌||◌, not, Bool, true, false, IsTrue, List, [], ◌∷◌, ◌++◌, zip, filter, slice_get, unwrap_or, option_and_then, Contains, All, AllPairs}
use Rattle.std.specs.List.{AllZip}
use Rattle.text_values.specs.declared.test.Place.{Place}
use Rattle.text_values.specs.declared.test.Place.TheVariants.{Location, Register}
use Rattle.text_values.specs.declared.test.Quantifier.{Quantifier}
use Rattle.text_values.specs.declared.test.Quantifier.TheVariants.{Exists, NotExists, Forall}
use Rattle.text_values.specs.declared.test.Connective.TheVariants.{And, Or, Implies}
use Rattle.text_values.specs.TestValue.{Content, Formula, Constant, Holds, Not, Join}
use Rattle.text_values.specs.ModelValue.{Clause, Flagging}
use Rattle.meaning.specs.Sets.{Set, HasCount}
use Rattle.meaning.specs.Names.{Name, is_name_before, is_same_observable, in_order, locations}
use Rattle.meaning.specs.Machine.{Value, Number, Address, NoValue, is_less, value_of}
use Rattle.meaning.specs.Runs.{Run}
use Rattle.meaning.specs.Executions.{Event, Execution, Stores, HasAction}

-- Observables are ordered: registers by thread and number, then locations by name.
abbrev pub is_observable_before : Place → Place → Bool
is_observable_before (Register t r) (Register u q) = nat_lt t u || (nat_eq t u && nat_lt r q)
is_observable_before (Register t r) (Location l) = true
is_observable_before (Location l) (Register t r) = false
is_observable_before (Location l) (Location m) = is_name_before l m

-- the registers and locations that a proposition names
abbrev pub observables_of : Formula → List Place
observables_of (Constant b) = []
observables_of (Holds p v) = p ∷ []
observables_of (Not a) = observables_of a
observables_of (Join op a b) = observables_of a ++ observables_of b

-- A final state shows the registers and locations of the condition and of the list `locations`.
abbrev pub observables : Content → List Place
observables t =
    in_order is_same_observable is_observable_before (observables_of t.condition ++ t.observed)

-- what a register of a thread holds at the end
abbrev pub final_register : Execution → ℕ → ℕ → Value
final_register x thread r =
    unwrap_or
    (option_and_then (λ (run : Run). slice_get run.final.registers r) (slice_get x.runs thread))
    NoValue

-- The location holds at the end what the last store of its order stores.
abbrev pub IsFinalValue : Content → Execution → Name → Value → Type 0
IsFinalValue t x l v =
    (order : List Event) × (before : List Event) × (last : Event)
    × Contains (zip (locations t) x.coherence) (l, order) × (order ≡ before ++ last ∷ [])
    × HasAction t x last (Stores l v)

-- The observable holds the value at the end.
abbrev pub EndsWith : Content → Execution → Place → Value → Type 0
EndsWith t x (Register thread r) v = v ≡ final_register x thread r
EndsWith t x (Location l) v = IsFinalValue t x l v

-- The execution ends in the state: the values are those of the observables, in their order.
abbrev pub EndsIn : Content → Execution → List Value → Type 0
EndsIn t x state = AllZip (EndsWith t x) (observables t) state

-- The proposition holds where the execution ends.
abbrev pub Satisfies : Content → Execution → Formula → Type 0
Satisfies t x (Constant b) = IsTrue b
Satisfies t x (Holds p v) = EndsWith t x p (value_of v)
Satisfies t x (Not a) = Satisfies t x a → ⊥
Satisfies t x (Join And a b) = Satisfies t x a × Satisfies t x b
Satisfies t x (Join Or a b) = Satisfies t x a ⊎ Satisfies t x b
Satisfies t x (Join Implies a b) = Satisfies t x a → Satisfies t x b

-- Values are ordered: numbers as signed numbers, then addresses by name.
abbrev pub is_value_before : Value → Value → Bool
is_value_before (Number m) (Number n) = is_less m n
is_value_before (Number m) v = true
is_value_before (Address k) (Address l) = is_name_before k l
is_value_before (Address k) NoValue = true
is_value_before v w = false

-- States are ordered by the first values that differ.
abbrev pub IsStateBefore : List Value → List Value → Type 0
IsStateBefore [] w = ⊥
IsStateBefore (a ∷ v) [] = ⊥
IsStateBefore (a ∷ v) (b ∷ w) = IsTrue (is_value_before a b) ⊎ ((a ≡ b) × IsStateBefore v w)

-- A final state, how many kept executions end in it, and whether it satisfies the proposition.
pub record CountedState : Type 0 where
  pub values : List Value
  pub count : ℕ
  pub holds : Bool

-- What is said of a final state is right, and some kept execution ends in it.
pub record IsCounted (t : Content) (Kept : Set Execution) (s : CountedState) : Type 0 where
  pub count : HasCount (λ x. Kept x × EndsIn t x s.values) s.count
  pub above : 0 < s.count
  pub holds : (x : Execution) → Kept x → EndsIn t x s.values
      → IsTrue s.holds ↔ Satisfies t x t.condition

-- The states are those in which kept executions end, in their order.
pub record AreStates (t : Content) (Kept : Set Execution) (states : List CountedState)
    : Type 0 where
  pub rising : AllPairs (λ r s. IsStateBefore r.values s.values) states
  pub counted : All (IsCounted t Kept) states
  pub whole : (x : Execution) → Kept x
      → (s : CountedState) × Contains states s × EndsIn t x s.values

-- In how many of the kept executions the proposition holds: in none, in some, or in all.
pub data Observation : Type 0 where
  Never : Observation
  Sometimes : Observation
  Always : Observation

-- the Observation of so many positive and negative witnesses
abbrev pub observation_of : ℕ → ℕ → Observation
observation_of zero negative = Never
observation_of (suc positive) zero = Always
observation_of (suc positive) (suc negative) = Sometimes

-- The condition is met, with so many positive and negative witnesses.
abbrev pub is_met : Quantifier → ℕ → ℕ → Bool
is_met Exists positive negative = nat_lt 0 positive
is_met NotExists positive negative = positive == 0
is_met Forall positive negative = negative == 0

-- The names are those of the flags that are raised, in the order of the text. The first item has
-- that index.
abbrev pub AreRaised : (ℕ → Type 0) → ℕ → List Clause → List Name → Type 0
AreRaised IsRaised i [] names = names ≡ []
AreRaised IsRaised i (Flagging check name ∷ cs) names =
    (IsRaised i
    × ((rest : List Name) × (names ≡ name ∷ rest) × AreRaised IsRaised (suc i) cs rest))
    ⊎ ((IsRaised i → ⊥) × AreRaised IsRaised (suc i) cs names)
AreRaised IsRaised i (c ∷ cs) names = AreRaised IsRaised (suc i) cs names

-- the names, each once, where it stands first
abbrev pub each_once : List Name → List Name
each_once [] = []
each_once (n ∷ ns) = n ∷ filter (λ m. not (bytes_eq n m)) (each_once ns)

-- The flags are the names of those that are raised, each once.
abbrev pub AreFlags : (ℕ → Type 0) → List Clause → List Name → Type 0
AreFlags IsRaised items flags =
    (names : List Name) × AreRaised IsRaised 0 items names × (flags ≡ each_once names)

-- What is said of a test under a model: final states, positive and negative witnesses, the
-- Observation, whether the condition is met, and the flags.
pub record Evaluation : Type 0 where
  pub states : List CountedState
  pub positive : ℕ
  pub negative : ℕ
  pub observation : Observation
  pub ok : Bool
  pub flags : List Name

-- It is what the kept executions say. A flag is raised if some kept execution meets its check.
pub record Says (t : Content) (items : List Clause) (Kept : Set Execution)
    (MeetsFlag : ℕ → Set Execution) (e : Evaluation) : Type 0 where
  pub states : AreStates t Kept e.states
  pub positive : HasCount (λ x. Kept x × Satisfies t x t.condition) e.positive
  pub negative : HasCount (λ x. Kept x × (Satisfies t x t.condition → ⊥)) e.negative
  pub observation : e.observation ≡ observation_of e.positive e.negative
  pub ok : e.ok ≡ is_met t.quantifier e.positive e.negative
  pub flags : AreFlags (λ i. (x : Execution) × Kept x × MeetsFlag i x) items e.flags
