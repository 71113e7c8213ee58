-- The steps of a reason: where they begin, where they lead, and what carries each. Read Labels
-- first.
use Rattle.std.specs.Prelude.{ℕ, ◌≡◌, ◌<◌, ◌⊎◌, length, List, [], ◌∷◌, ◌++◌, Option, Some, None, if◌then◌else◌, nat_eq, map}
use Rattle.std.specs.List.{All, AllZip, list_any}
use Rattle.binding_graph.specs.declared.resolved.Code.{Code}
use Rattle.why_witness.specs.declared.witness.Witness.{Witness}
use Rattle.why_witness.specs.declared.witness.Witness.TheVariants as shown
use Rattle.why_walks.specs.declared.run.Link.{Link}
use Rattle.why_walks.specs.declared.value.FactorValues.{FactorValues}
use Rattle.why_walks.specs.Values.{AreLinksAt, IsOn}
use Rattle.why_walks.specs.Walks.{IsFirstWalk, IsNoWalk, IsWalk}
use Rattle.why_text.specs.declared.reason.ToldStep.{ToldStep}
use Rattle.why_labels.specs.declared.label.EventPair.{EventPair}
use Rattle.why_forbidden.specs.declared.checks.CheckValues.{CheckValues}
use Rattle.why_forbidden.specs.Labels.{Judgement, IsStepLabel}

-- the event where a step begins, and the expression of whose relation it is a step
pub record StepStart : Type 0 where
  pub event : ℕ
  pub code : Code

-- a step from an event to another
pub record StepLeg : Type 0 where
  pub from : ℕ
  pub to : ℕ
  pub code : Code

abbrev pub start_at : Code → ℕ → StepStart
start_at code event = record { event = event; code = code }

abbrev pub starts_at : Code → List ℕ → List StepStart
starts_at code events = map (start_at code) events

-- the steps of each factor in turn, which begin at these events
abbrev pub starts_through : List FactorValues → List (List ℕ) → List StepStart
starts_through [] runs = []
starts_through (f ∷ fs) [] = []
starts_through (f ∷ fs) (run ∷ runs) = starts_at f.code run ++ starts_through fs runs

-- the factors of the check's expression have relations on n events in the candidate of number k
abbrev pub AreFactorsOn : CheckValues → ℕ → ℕ → Type 0
AreFactorsOn check k n = All (λ f. IsOn k n f.values) check.factors.items

-- the steps of a walk through the factors of the check's expression from the event, one of n, back
-- to it, in the candidate of number k: of the first walk, where the factors are on n events
pub record IsWalkBack (check : CheckValues) (k n event : ℕ) (starts : List StepStart) : Type 0 where
  pub links : List Link
  pub runs : List (List ℕ)
  pub linked : AreLinksAt k check.factors.items links
  pub walk : IsWalk links event runs event
  pub first : AreFactorsOn check k n → event < n → IsFirstWalk links event runs event
  pub through : starts ≡ starts_through check.factors.items runs

-- no walk through the factors leads back to the event, if it is one of n and they are on n events
abbrev pub HasNoWalkBack : CheckValues → ℕ → ℕ → ℕ → Type 0
HasNoWalkBack check k n event =
    AreFactorsOn check k n → event < n → (links : List Link)
    → AreLinksAt k check.factors.items links → IsNoWalk links event event

-- a walk back of one step or more; and that the walk back has no step, or there is none
abbrev pub HasSteps : CheckValues → ℕ → ℕ → ℕ → List StepStart → Type 0
HasSteps check k n event starts = IsWalkBack check k n event starts × (0 < length starts)

abbrev pub HasNoSteps : CheckValues → ℕ → ℕ → ℕ → Type 0
HasNoSteps check k n event = IsWalkBack check k n event [] ⊎ HasNoWalkBack check k n event

-- from the event back to it, among n events: a walk of one step or more, or one step of the whole
-- expression where the walk has no step, or there is none
abbrev pub AreStartsBack : CheckValues → ℕ → ℕ → ℕ → List StepStart → Type 0
AreStartsBack check k n event starts =
    HasSteps check k n event starts
    ⊎ ((starts ≡ start_at check.check.now.code event ∷ []) × HasNoSteps check k n event)

-- where the steps begin that show why the check refuses the candidate of number k, of n events
abbrev pub AreStepStarts : CheckValues → ℕ → ℕ → Witness → List StepStart → Type 0
AreStepStarts check k n (shown.Cycle events) starts =
    starts ≡ starts_at check.check.now.code events.items
AreStepStarts check k n (shown.Reflexive event) starts = AreStartsBack check k n event starts
AreStepStarts check k n (shown.Pair from to) starts = starts ≡ start_at check.check.now.code from ∷ []
AreStepStarts check k n (shown.Member event) starts = starts ≡ []
AreStepStarts check k n shown.Met starts = starts ≡ []

abbrev pub ends_of_cycle : List ℕ → Option (ℕ × ℕ)
ends_of_cycle [] = None
ends_of_cycle (event ∷ events) = Some (event, event)

-- the events where the first step begins and where the last leads; what a negated check asks for
-- has none
abbrev pub ends_of : Witness → Option (ℕ × ℕ)
ends_of (shown.Cycle events) = ends_of_cycle events.items
ends_of (shown.Reflexive event) = Some (event, event)
ends_of (shown.Pair from to) = Some (from, to)
ends_of (shown.Member event) = Some (event, event)
ends_of shown.Met = None

-- each step leads to where the next begins, and the last to the end
abbrev pub next_event : List StepStart → ℕ → ℕ
next_event [] end = end
next_event (s ∷ ss) end = s.event

abbrev pub leg_from : StepStart → ℕ → StepLeg
leg_from start to = record { from = start.event; to = to; code = start.code }

abbrev pub legs_to : List StepStart → ℕ → List StepLeg
legs_to [] end = []
legs_to (s ∷ ss) end = leg_from s (next_event ss end) ∷ legs_to ss end

abbrev pub pair_of : ℕ → StepLeg → EventPair
pair_of k leg = record { candidate = k; from = leg.from; to = leg.to }

-- the step is told by what carries it, and by where it leads
pub record IsToldStep (j : Judgement) (item k : ℕ) (leg : StepLeg) (step : ToldStep) : Type 0 where
  pub label : IsStepLabel j item leg.code (pair_of k leg) step.label.items
  pub to : step.to ≡ leg.to

abbrev pub AreStepsTo : Judgement → ℕ → ℕ → List StepStart → ℕ → List ToldStep → Type 0
AreStepsTo j item k starts end steps = AllZip (IsToldStep j item k) (legs_to starts end) steps

abbrev pub AreToldSteps : Judgement → ℕ → ℕ → Option (ℕ × ℕ) → List StepStart → List ToldStep
    → Type 0
AreToldSteps j item k None starts steps = steps ≡ []
AreToldSteps j item k (Some ends) starts steps = AreStepsTo j item k starts ends.1 steps

-- an event more, if it is not among them
abbrev pub with_event : List ℕ → ℕ → List ℕ
with_event numbers event =
    if list_any (λ y. nat_eq y event) numbers then numbers else numbers ++ event ∷ []

abbrev pub with_events : List ℕ → List StepStart → List ℕ
with_events numbers [] = numbers
with_events numbers (s ∷ ss) = with_events (with_event numbers s.event) ss

-- the events where the steps begin and end, each once
abbrev pub numbers_of : Option (ℕ × ℕ) → List StepStart → List ℕ
numbers_of None starts = []
numbers_of (Some ends) starts = with_event (with_events (ends.0 ∷ []) starts) ends.1
