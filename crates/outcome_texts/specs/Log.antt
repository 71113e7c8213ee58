-- The bytes of a log.
use Rattle.std.specs.Prelude.{ℕ, List, [], ◌∷◌, ◌++◌, Bool, true, false, decimal, length, codes}
use Rattle.std.specs.List.{flat_map}
use Rattle.text_values.specs.declared.test.Quantifier.{Quantifier}
use Rattle.text_values.specs.declared.test.Quantifier.TheVariants.{Exists, NotExists, Forall}
use Rattle.binding_kinds.specs.Numbers.{number as fault_number}
use Rattle.ppc_lowering.specs.Numbers.{number as refusal_number}
use Rattle.outcome_states.specs.declared.answer.CountedState.{CountedState}
use Rattle.outcome_states.specs.declared.answer.Evaluation.{Evaluation}
use Rattle.outcome_states.specs.declared.answer.Observation.{Observation}
use Rattle.outcome_states.specs.declared.answer.Observation.TheVariants.{Never, Sometimes, Always}
use Rattle.outcome_states.specs.declared.answer.Outcome.{Outcome}
use Rattle.outcome_states.specs.declared.answer.OutcomeResult.{OutcomeResult}
use Rattle.outcome_states.specs.declared.answer.OutcomeResult.TheVariants.{Refused, Evaluated}
use Rattle.outcome_states.specs.declared.answer.Refusal.{Refusal}
use Rattle.outcome_states.specs.declared.answer.Refusal.TheVariants.{Model, Space}

-- a line feed
abbrev pub line_end : List ℕ
line_end = 10 ∷ []

-- the kind of a test, by its condition
unfoldable pub kind_word : Quantifier → List ℕ
kind_word Exists = codes "Allowed"
kind_word NotExists = codes "Forbidden"
kind_word Forall = codes "Required"

unfoldable pub observation_word : Observation → List ℕ
observation_word Never = codes "Never"
observation_word Sometimes = codes "Sometimes"
observation_word Always = codes "Always"

-- whether the condition is met
unfoldable pub met_word : Bool → List ℕ
met_word true = codes "Ok"
met_word false = codes "No"

-- a state, on a line
abbrev pub state_line : CountedState → List ℕ
state_line s = s.text ++ line_end

-- a raised flag, on a line
abbrev pub flag_line : List ℕ → List ℕ
flag_line name = codes "Flag " ++ name ++ line_end

-- the states and how many they are
unfoldable pub state_lines : List CountedState → List ℕ
state_lines states =
    codes "States " ++ decimal (length states) ++ line_end ++ flat_map state_line states

-- what the condition found
unfoldable pub witness_lines : Bool → ℕ → ℕ → List ℕ
witness_lines ok positive negative =
    met_word ok ++ codes "\nWitnesses\nPositive: " ++ decimal positive ++ codes " Negative: "
    ++ decimal negative ++ line_end

-- the word of the observation, how many kept candidates satisfy the proposition, and how many do
-- not
unfoldable pub observation_text : Evaluation → List ℕ
observation_text e =
    observation_word e.observation ++ codes " " ++ decimal e.positive ++ codes " "
    ++ decimal e.negative

unfoldable pub observation_label : List ℕ → List ℕ
observation_label name = codes "Observation " ++ name ++ codes " "

abbrev pub observation_line : List ℕ → Evaluation → List ℕ
observation_line name e = observation_label name ++ observation_text e ++ line_end

unfoldable pub condition_line : List ℕ → List ℕ
condition_line condition = codes "Condition " ++ condition ++ line_end

-- an evaluation, of a test of this name and this printed condition
abbrev pub evaluation_lines : List ℕ → List ℕ → Evaluation → List ℕ
evaluation_lines name condition e =
    state_lines e.states ++ witness_lines e.ok e.positive e.negative ++ flat_map flag_line e.flags
    ++ condition_line condition ++ observation_line name e

unfoldable pub head_line : List ℕ → Quantifier → List ℕ
head_line name kind = codes "Test " ++ name ++ codes " " ++ kind_word kind ++ line_end

-- a refusal of a model or of a test: its letter and its number
abbrev pub refusal_text : Refusal → List ℕ
refusal_text (Model fault) = codes "M" ++ decimal (fault_number fault)
refusal_text (Space refusal) = codes "E" ++ decimal (refusal_number refusal)

abbrev pub refusal_line : Refusal → List ℕ
refusal_line refusal = codes "Refused " ++ refusal_text refusal ++ line_end

-- what stands behind the head, of a test of this name and this printed condition
abbrev pub result_text : List ℕ → List ℕ → OutcomeResult → List ℕ
result_text name condition (Refused refusal) = refusal_line refusal
result_text name condition (Evaluated e) = evaluation_lines name condition e

-- the log of a test of this name
abbrev pub log_of : List ℕ → Outcome → List ℕ
log_of name o = head_line name o.kind ++ result_text name o.condition o.result
