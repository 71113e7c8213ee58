-- How the reader goes from token to token through a proposition. The words `true`, `false` and
-- `not` are decided at the token behind them: before an equals sign they are locations.
use Rattle.std.specs.Prelude.{ℕ, ◌+◌, List, [], ◌∷◌, Bool, true, false, Option, Some, None, nat_lt, nat_le, codes, if◌then◌else◌}
use Rattle.std.specs.Str.{bytes_eq}
use Rattle.text_values.specs.declared.test.Place.{Place}
use Rattle.text_values.specs.declared.test.Place.TheVariants as places
use Rattle.text_values.specs.declared.test.Value as declared_value
use Rattle.text_values.specs.declared.test.Connective.{Connective}
use Rattle.text_values.specs.declared.test.Connective.TheVariants as connectives
use Rattle.text_values.specs.TestValue.{Formula, Constant, Holds, Not, Join, level}
use Rattle.litmus_tokens.specs.declared.token.Token.{Token}
use Rattle.litmus_tokens.specs.declared.token.Token.TheVariants as tokens
use Rattle.litmus_tokens.specs.declared.token.Mark.TheVariants as marks
use Rattle.litmus_tokens.specs.Words.{decimal}
use Rattle.litmus_tokens.specs.declared.place.PlaceExpectation.{PlaceExpectation}
use Rattle.litmus_tokens.specs.declared.place.PlaceExpectation.TheVariants.{WantsName, WantsColon}
use Rattle.litmus_tokens.specs.declared.place.PlaceStep.{PlaceStep}
use Rattle.litmus_tokens.specs.declared.place.PlaceStep.TheVariants as steps
use Rattle.litmus_tokens.specs.Conditions.{Limits, constant_word}
use Rattle.litmus_tokens.specs.PlaceMachine.{place_step, place_of, value_read}

-- what stands open to the left, the innermost first
pub data ConditionFrame : Type 0 where
  InGroup : ConditionFrame
  InPrefix : ConditionFrame
  LeftOf : (op : Connective) (a : Formula) → ConditionFrame

-- what was read last: nothing, a word that may be a location, a part of an atom, or an operand
pub data ConditionExpectation : Type 0 where
  Wants : ConditionExpectation
  HasConstant : (b : Bool) → ConditionExpectation
  HasNot : ConditionExpectation
  InPlace : (within : PlaceExpectation) → ConditionExpectation
  WantsEquals : (place : Place) → ConditionExpectation
  WantsValue : (place : Place) → ConditionExpectation
  Has : (a : Formula) → ConditionExpectation

-- what a token does
pub data ConditionStepResult : Type 0 where
  Goes : (frames : List ConditionFrame) (used : ℕ) (expected : ConditionExpectation) → ConditionStepResult
  Ends : (a : Formula) → ConditionStepResult
  Refuses : ConditionStepResult

abbrev pub open_count : List ConditionFrame → ℕ
open_count [] = 0
open_count (InGroup ∷ fs) = open_count fs + 1
open_count (InPrefix ∷ fs) = open_count fs + 1
open_count (LeftOf op a ∷ fs) = open_count fs

-- joins what binds at least this tightly
abbrev pub fold_to : ℕ → List ConditionFrame → Formula → List ConditionFrame × Formula
fold_to l [] v = ([], v)
fold_to l (InGroup ∷ fs) v = (InGroup ∷ fs, v)
fold_to l (InPrefix ∷ fs) v = fold_to l fs (Not v)
fold_to l (LeftOf op a ∷ fs) v =
    if nat_le l (level op) then fold_to l fs (Join op a v) else (LeftOf op a ∷ fs, v)

-- goes on where one more may be open
abbrev pub condition_opened : Limits → List ConditionFrame → ConditionStepResult → ConditionStepResult
condition_opened most fs next = if nat_lt (open_count fs) most.nesting then next else Refuses

abbrev pub expected_after_word : List ℕ → ConditionExpectation
expected_after_word w =
    if bytes_eq w (codes "true") then HasConstant true else (
    if bytes_eq w (codes "false") then HasConstant false else (
    if bytes_eq w (codes "not") then HasNot else WantsEquals (places.Location w)))

abbrev pub expected_after_place : Option PlaceStep → Option ConditionExpectation
expected_after_place (Some (steps.Goes within)) = Some (InPlace within)
expected_after_place (Some (steps.Ends written)) = Some (WantsEquals (place_of written))
expected_after_place None = None

abbrev pub in_place : List ConditionFrame → ℕ → Option ConditionExpectation → ConditionStepResult
in_place fs used (Some expected) = Goes fs used expected
in_place fs used None = Refuses

abbrev pub place_result : List ConditionFrame → ℕ → PlaceExpectation → Token → ConditionStepResult
place_result fs used within t = in_place fs used (expected_after_place (place_step within t))

-- a token where an operand is wanted, in a test of so many threads
abbrev pub operand : Limits → ℕ → List ConditionFrame → ℕ → Token → ConditionStepResult
operand most threads fs used (tokens.Word w) = Goes fs used (expected_after_word w)
operand most threads fs used (tokens.Mark marks.Tilde) =
    condition_opened most fs (Goes (InPrefix ∷ fs) used Wants)
operand most threads fs used (tokens.Mark marks.Open) =
    condition_opened most fs (Goes (InGroup ∷ fs) used Wants)
operand most threads fs used (tokens.Mark marks.OpenBracket) = Goes fs used (InPlace WantsName)
operand most threads fs used (tokens.Number false t) =
    if nat_lt (decimal t) threads then Goes fs used (InPlace (WantsColon t)) else Refuses
operand most threads fs used t = Refuses

abbrev pub left_frames : Connective → List ConditionFrame × Formula → List ConditionFrame
left_frames op p = LeftOf op p.1 ∷ p.0

abbrev pub joins : Limits → List ConditionFrame → ℕ → Formula → Connective → ConditionStepResult
joins most fs used v op =
    if nat_lt used most.operators then Goes (left_frames op (fold_to (level op + 1) fs v))
    (used + 1) Wants
    else Refuses

abbrev pub condition_closed : ℕ → List ConditionFrame × Formula → ConditionStepResult
condition_closed used (InGroup ∷ fs, v) = Goes fs used (Has v)
condition_closed used (fs, v) = Refuses

abbrev pub condition_ended : List ConditionFrame × Formula → ConditionStepResult
condition_ended ([], v) = Ends v
condition_ended (f ∷ fs, v) = Refuses

-- a token behind an operand
abbrev pub behind_operand : Limits → List ConditionFrame → ℕ → Formula → Token → ConditionStepResult
behind_operand most fs used v (tokens.Mark marks.And) = joins most fs used v connectives.And
behind_operand most fs used v (tokens.Mark marks.Or) = joins most fs used v connectives.Or
behind_operand most fs used v (tokens.Mark marks.Implies) = joins most fs used v connectives.Implies
behind_operand most fs used v (tokens.Mark marks.Close) = condition_closed used (fold_to 0 fs v)
behind_operand most fs used v tokens.End = condition_ended (fold_to 0 fs v)
behind_operand most fs used v t = Refuses

abbrev pub is_equals : Token → Bool
is_equals (tokens.Mark marks.Equals) = true
is_equals t = false

-- a token behind the word `true` or `false`
abbrev pub after_constant : Limits → List ConditionFrame → ℕ → Bool → Token → ConditionStepResult
after_constant most fs used b t =
    if is_equals t then Goes fs used (WantsValue (places.Location (constant_word b)))
    else behind_operand most fs used (Constant b) t

-- a token behind the word `not`
abbrev pub after_not : Limits → ℕ → List ConditionFrame → ℕ → Token → ConditionStepResult
after_not most threads fs used t =
    if is_equals t then Goes fs used (WantsValue (places.Location (codes "not")))
    else condition_opened most fs (operand most threads (InPrefix ∷ fs) used t)

abbrev pub after_place : List ConditionFrame → ℕ → Place → Token → ConditionStepResult
after_place fs used p t = if is_equals t then Goes fs used (WantsValue p) else Refuses

abbrev pub atom_read : List ConditionFrame → ℕ → Place → Option declared_value.Value → ConditionStepResult
atom_read fs used p (Some v) = Goes fs used (Has (Holds p v))
atom_read fs used p None = Refuses

-- a token of a proposition, of which these frames are open and this many operators were read
abbrev pub proposition_step : Limits → ℕ → List ConditionFrame → ℕ → ConditionExpectation → Token → ConditionStepResult
proposition_step most threads fs used Wants t = operand most threads fs used t
proposition_step most threads fs used (HasConstant b) t = after_constant most fs used b t
proposition_step most threads fs used HasNot t = after_not most threads fs used t
proposition_step most threads fs used (InPlace within) t = place_result fs used within t
proposition_step most threads fs used (WantsEquals p) t = after_place fs used p t
proposition_step most threads fs used (WantsValue p) t = atom_read fs used p (value_read t)
proposition_step most threads fs used (Has v) t = behind_operand most fs used v t

abbrev pub whole_at : Formula → List Token → Option Formula
whole_at v [] = Some v
whole_at v (t ∷ ts) = None

abbrev pub go_on : (List ConditionFrame → ℕ → ConditionExpectation → Option Formula) → List Token → ConditionStepResult
    → Option Formula
go_on later ts (Goes fs used expected) = later fs used expected
go_on later ts (Ends v) = whole_at v ts
go_on later ts Refuses = None

-- what all these tokens, from here on, make the proposition be, if they end it
abbrev pub proposition : Limits → ℕ → List ConditionFrame → ℕ → ConditionExpectation → List Token → Option Formula
proposition most threads fs used expected [] = None
proposition most threads fs used expected (t ∷ ts) =
    go_on (λ gs u h. proposition most threads gs u h ts) ts
    (proposition_step most threads fs used expected t)
