-- How a cell is shown: its colour by a class, and its words.
use Rattle.std.specs.Prelude.{ℕ, not, Bool, if◌then◌else◌, List, [], ◌∷◌, ◌++◌, decimal, codes}
use Rattle.escaped_texts.specs.Elements.{Attribute, element}
use Rattle.escaped_texts.specs.Escaped.{escaped}
use Rattle.outcome_texts.specs.Log.{observation_word, refusal_text}
use Rattle.outcome_states.specs.declared.answer.Evaluation.{Evaluation}
use Rattle.outcome_states.specs.declared.answer.Observation.{Observation}
use Rattle.outcome_states.specs.declared.answer.Observation.TheVariants.{Never, Sometimes, Always}
use Rattle.outcome_states.specs.declared.answer.Outcome.{Outcome}
use Rattle.outcome_states.specs.declared.answer.OutcomeResult.{OutcomeResult}
use Rattle.outcome_states.specs.declared.answer.OutcomeResult.TheVariants.{Refused, Evaluated}
use Rattle.report_details.specs.Groups.{has_refusal}

-- one attribute
abbrev pub one : List ℕ → List ℕ → List Attribute
one name value = (name, value) ∷ []

abbrev pub class_of : List ℕ → List Attribute
class_of class = one (codes "class") class

abbrev pub scope_of : List ℕ → List Attribute
scope_of scope = one (codes "scope") scope

abbrev pub text_if : Bool → List ℕ → List ℕ
text_if holds words = if holds then words else []

-- an element of these words
abbrev pub heading : List ℕ → List ℕ → List ℕ
heading name words = element name [] (escaped words)

-- a number behind a text
unfoldable pub numbered : List ℕ → ℕ → List ℕ
numbered front number = front ++ decimal number

-- an empty, a half and a full circle
unfoldable pub sign : Observation → List ℕ
sign Never = codes "&#9675; "
sign Sometimes = codes "&#9680; "
sign Always = codes "&#9679; "

unfoldable pub observation_class : Observation → List ℕ
observation_class Never = codes "N"
observation_class Sometimes = codes "S"
observation_class Always = codes "A"

-- the class of a cell
unfoldable pub result_class : OutcomeResult → List ℕ
result_class (Refused refusal) = codes "X"
result_class (Evaluated e) = observation_class e.observation

-- how many kept executions satisfy the proposition, and how many do not
unfoldable pub numbers : Evaluation → List ℕ
numbers e = codes " " ++ decimal e.positive ++ codes " " ++ decimal e.negative

abbrev pub word : Observation → List ℕ
word observation = element (codes "i") [] (escaped (observation_word observation))

unfoldable pub evaluation_mark : Evaluation → List ℕ
evaluation_mark e = sign e.observation ++ word e.observation ++ escaped (numbers e)

-- the observation with its numbers, or the number of the refusal
unfoldable pub result_mark : OutcomeResult → List ℕ
result_mark (Refused refusal) = escaped (refusal_text refusal)
result_mark (Evaluated e) = evaluation_mark e

unfoldable pub apart_word : Bool → List ℕ
apart_word is_apart = if is_apart then codes "differ" else codes "same"

-- the class of a test, by which the filters show or hide it
unfoldable pub test_class : List Outcome → Bool → List ℕ
test_class outcomes is_apart =
    apart_word is_apart ++ text_if (not (has_refusal outcomes)) (codes " fine")
