-- What a model says of the candidates of a test that satisfy its proposition. Read Checked and Told
-- first.
use Rattle.std.specs.Prelude.{ℕ, ◌≡◌, ◌+◌, ◌==◌, List, [], ◌∷◌, ◌++◌, Bool, true, false, if◌then◌else◌, length, Some, slice_get}
use Rattle.text_values.specs.declared.test.Test.{Test}
use Rattle.text_values.specs.TestValue.{formula_of}
use Rattle.candidate_spaces.specs.declared.candidate.Space.{Space}
use Rattle.candidate_spaces.specs.Space.{Shown, shown_in}
use Rattle.why_text.specs.Origins.{AreInstructions}
use Rattle.verdict.specs.Evaluated.{is_satisfied}
use Rattle.why_text.specs.declared.event.ToldEvent.{ToldEvent}
use Rattle.why_text.specs.declared.reason.Reason.{Reason}
use Rattle.why_forbidden.specs.declared.checks.CheckValues.{CheckValues}
use Rattle.why_forbidden.specs.declared.checks.FirstRefusal.{FirstRefusal}
use Rattle.why_forbidden.specs.Checked.{AcceptBelow, IsFirstRefusal}
use Rattle.why_forbidden.specs.Labels.{Judgement}
use Rattle.why_forbidden.specs.Told.{Scene, IsReason, events_from}

-- a test, its space, and a model over it, with its checks that are no flags
pub record Case : Type 0 where
  pub test : Test
  pub space : Space
  pub model : Judgement
  pub checks : List CheckValues

abbrev pub satisfies_proposition : Case → Shown → Bool
satisfies_proposition c shown =
    is_satisfied c.space.locations.items (formula_of c.test.condition.proposition) shown

-- the candidate of number k, which does or does not satisfy the proposition
pub record IsCandidate (c : Case) (k : ℕ) (satisfied : Bool) (scene : Scene) : Type 0 where
  pub number : scene.candidate ≡ k
  pub shown : Shown
  pub stands : slice_get (shown_in c.space) k ≡ Some shown
  pub events : scene.events ≡ shown.events
  pub holds : satisfies_proposition c shown ≡ satisfied

-- it does not satisfy the proposition
pub record IsOther (c : Case) (k : ℕ) : Type 0 where
  pub scene : Scene
  pub candidate : IsCandidate c k false scene

-- all checks accept it; these are its events but for the initial stores
abbrev pub program_events : Case → Scene → List ToldEvent
program_events c scene = events_from (length c.space.locations.items) scene

pub record IsKeptCandidate (c : Case) (k : ℕ) (events : List ToldEvent) : Type 0 where
  pub scene : Scene
  pub candidate : IsCandidate c k true scene
  pub instructions : AreInstructions c.test scene.events scene.instructions
  pub accepted : AcceptBelow c.checks k (length c.checks)
  pub told : events ≡ program_events c scene

-- this check refuses the candidate for this reason
pub record IsReasonFor (model : Judgement) (checks : List CheckValues) (scene : Scene)
    (first : FirstRefusal) (reason : Reason)
    : Type 0 where
  pub check : CheckValues
  pub here : slice_get checks first.index ≡ Some check
  pub told : IsReason model scene check first.witness reason

-- a check refuses it, and the first that does for this reason
pub record IsForbiddenCandidate (c : Case) (k : ℕ) (reason : Reason) : Type 0 where
  pub scene : Scene
  pub candidate : IsCandidate c k true scene
  pub instructions : AreInstructions c.test scene.events scene.instructions
  pub first : FirstRefusal
  pub refuses : IsFirstRefusal c.checks k first
  pub told : IsReasonFor c.model c.checks scene first reason

-- the events of the first that is kept
abbrev pub first_shown : ℕ → List ToldEvent → List ToldEvent → List ToldEvent
first_shown kept shown events = if kept == 0 then events else shown

-- Of the first k candidates those that satisfy the proposition: how many are kept, the events of
-- the first of these, and why each of the others is refused.
pub data AreFindings (c : Case) : ℕ → ℕ → List ToldEvent → List Reason → Type 0 where
  NoCandidate : AreFindings c 0 0 [] []
  OtherNext : (k kept : ℕ) (shown : List ToldEvent) (reasons : List Reason)
      → AreFindings c k kept shown reasons → IsOther c k → AreFindings c (k + 1) kept shown reasons
  KeptNext : (k kept : ℕ) (shown events : List ToldEvent) (reasons : List Reason)
      → AreFindings c k kept shown reasons → IsKeptCandidate c k events
      → AreFindings c (k + 1) (kept + 1) (first_shown kept shown events) reasons
  ForbiddenNext : (k kept : ℕ) (shown : List ToldEvent) (reasons : List Reason) (reason : Reason)
      → AreFindings c k kept shown reasons → IsForbiddenCandidate c k reason
      → AreFindings c (k + 1) kept shown (reasons ++ reason ∷ [])
