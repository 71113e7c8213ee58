-- What the code keeps of a case, as the definitions name it.
use Rattle.std.specs.Prelude.{ℕ, ◌≡◌, ◌+◌, List, [], ◌∷◌, ◌++◌, Bool, true, Option}
use Rattle.text_values.specs.declared.test.Test.{Test}
use Rattle.candidate_spaces.specs.declared.candidate.Space.{Space}
use Rattle.why_text.specs.declared.event.ToldEvent.{ToldEvent}
use Rattle.why_text.specs.declared.finding.Findings.{Findings}
use Rattle.why_text.specs.declared.reason.Reason.{Reason}
use Rattle.why_forbidden.specs.declared.answer.Outcome.{Outcome}
use Rattle.why_forbidden.specs.declared.answer.Outcome.TheVariants as outcomes
use Rattle.why_forbidden.specs.declared.telling.Judged.{Judged}
use Rattle.why_forbidden.specs.declared.telling.Leg.{Leg}
use Rattle.why_forbidden.specs.declared.telling.Start.{Start}
use Rattle.why_forbidden.specs.declared.telling.Told.{Told}
use Rattle.why_forbidden.specs.Labels.{Judgement}
use Rattle.why_forbidden.specs.Outcomes.{Case, IsCandidate, IsOther, IsKeptCandidate, IsForbiddenCandidate, AreFindings, first_shown}
use Rattle.why_forbidden.specs.Steps.{StepStart, StepLeg}
use Rattle.why_forbidden.specs.Told.{Scene}
use Rattle.why_text.specs.Origins.{AreInstructions}
use Rattle.why_labels.specs.declared.label.EventPair.{EventPair}
use Rattle.why_labels.specs.declared.unions.ModelName.{ModelName}
use Rattle.why_labels.specs.Labels.{Relates, IsInnermost}

abbrev pub judgement_of : Judged → Bool → Judgement
judgement_of judged deep =
    record {
      text = judged.text.now;
      items = judged.items.now;
      values = judged.values;
      is_deep = deep;
    }

abbrev pub scene_of : Told → Scene
scene_of told =
    record {
      candidate = told.candidate;
      events = told.events.now;
      instructions = told.instructions.now;
    }

abbrev pub start_of : Start → StepStart
start_of start = record { event = start.event; code = start.code.now }

abbrev pub leg_of : Leg → StepLeg
leg_of leg = record { from = leg.from; to = leg.to; code = leg.code.now }

abbrev pub case_of : Test → Space → Judged → Bool → Case
case_of test space judged deep =
    record {
      test = test;
      space = space;
      model = judgement_of judged deep;
      checks = judged.checks.now;
    }

-- what comes of the candidate of number k
abbrev pub IsOutcome : Case → ℕ → Outcome → Type 0
IsOutcome c k outcomes.Other = IsOther c k
IsOutcome c k (outcomes.Kept events) = IsKeptCandidate c k events.items
IsOutcome c k (outcomes.Forbidden reason) = IsForbiddenCandidate c k reason

-- what comes of it where it satisfies the proposition
abbrev pub IsOutcomeIf : Case → Scene → Outcome → Type 0
IsOutcomeIf c scene outcome =
    IsCandidate c scene.candidate true scene
    → AreInstructions c.test scene.events scene.instructions
    → IsOutcome c scene.candidate outcome

-- of these names the innermost that relates the events
abbrev pub IsInnermostOf : Judged → EventPair → List ModelName → Option ModelName → Type 0
IsInnermostOf judged pair names found =
    IsInnermost judged.items.now (Relates judged.values pair) names found

-- the findings with one outcome more
pub record AreWith (count : ℕ) (events : List ToldEvent) (told : List Reason) (new : Findings)
    : Type 0 where
  pub kept : new.kept ≡ count
  pub shown : new.shown.items ≡ events
  pub reasons : new.reasons.items ≡ told

abbrev pub AreWithKept : List ToldEvent → Findings → Findings → Type 0
AreWithKept events old new =
    AreWith (old.kept + 1) (first_shown old.kept old.shown.items events) old.reasons.items new

abbrev pub AreWithReason : Reason → Findings → Findings → Type 0
AreWithReason reason old new =
    AreWith old.kept old.shown.items (old.reasons.items ++ reason ∷ []) new

abbrev pub IsOutcomeAdded : Outcome → Findings → Findings → Type 0
IsOutcomeAdded outcomes.Other old new = AreWith old.kept old.shown.items old.reasons.items new
IsOutcomeAdded (outcomes.Kept events) old new = AreWithKept events.items old new
IsOutcomeAdded (outcomes.Forbidden reason) old new = AreWithReason reason old new

-- what is found of the first k candidates
abbrev pub AreFoundOf : Case → ℕ → Findings → Type 0
AreFoundOf c k f = AreFindings c k f.kept f.shown.items f.reasons.items
