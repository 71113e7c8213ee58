-- What a test says under a model: `Evaluates`. Read before it, in this order: Sets, Names, Machine,
-- Runs, Domain, Dependencies, Executions, Predefined, Cat, Faults, Refusals, Outcome.
use Rattle.std.specs.Prelude.{ℕ, ◌≡◌, List, [], ◌∷◌, map, reverse}
use Rattle.predefined_names.specs.declared.predefined.Predefined.{Predefined}
use Rattle.predefined_names.specs.PredefinedNames.{spelling, is_set}
use Rattle.text_values.specs.TestValue.{Content}
use Rattle.text_values.specs.ModelValue.{Clause}
use Rattle.meaning.specs.Executions.{Event, Execution, IsExecution, IsEvent}
use Rattle.meaning.specs.Predefined.{EventsOf, PairsOf, predefined_names}
use Rattle.meaning.specs.Cat.{Names, Bound, ToMeaning, ASet, ARelation, choice_of, AreMet, IsFlagMet}
use Rattle.meaning.specs.Faults.{ModelFault, faults}
use Rattle.meaning.specs.Refusals.{Refusal, IsRefusal, IsAccepted}
use Rattle.meaning.specs.Outcome.{Evaluation, Says}

-- what a predefined name is bound to
abbrev pub predefined_bound : Content → Execution → Predefined → Bound Event
predefined_bound t x p =
    ToMeaning (choice_of (is_set p) (ASet (EventsOf t x p)) (ARelation (PairsOf t x p)))

-- the names that the first item sees
abbrev pub outermost : Content → Execution → Names Event
outermost t x = reverse (map (λ p. (spelling p, predefined_bound t x p)) predefined_names)

-- The model keeps the execution: it meets all checks.
abbrev pub IsKept : Content → List Clause → Execution → Type 0
IsKept t items x = IsExecution t x × AreMet (IsEvent t x) (outermost t x) items

-- The item at that index is a flag, and the execution meets its check.
abbrev pub MeetsFlag : Content → List Clause → ℕ → Execution → Type 0
MeetsFlag t items i x = IsFlagMet (IsEvent t x) (outermost t x) items i

-- What a test is said to be under a model: the fault of the model, the refusal of the test, or what
-- its kept executions say.
pub data Outcome : Type 0 where
  Faulty : (fault : ModelFault) → Outcome
  Refused : (refusal : Refusal) → Outcome
  Evaluated : (evaluation : Evaluation) → Outcome

-- The test says this under the model. The first fault of the model comes before all else, and the
-- refusal of the test before what its executions say.
abbrev pub Evaluates : Content → List Clause → Outcome → Type 0
Evaluates t items (Faulty k) = (rest : List ModelFault) × (faults items ≡ k ∷ rest)
Evaluates t items (Refused r) = (faults items ≡ []) × IsRefusal t r
Evaluates t items (Evaluated e) =
    (faults items ≡ []) × IsAccepted t × Says t items (IsKept t items) (MeetsFlag t items) e
