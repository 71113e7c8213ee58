-- How the states of an evaluation are printed, from the names of a test.
use Rattle.std.specs.Prelude.{ℕ, ◌≡◌, List, ◌++◌, [], map, zip, codes, All}
use Rattle.std.specs.Fmt.{signed_decimal}
use Rattle.std.specs.Int.{cast_signed, w32}
use Rattle.text_values.specs.Joined.{joined}
use Rattle.text_values.specs.declared.test.Test.{Test}
use Rattle.text_values.specs.declared.test.Place.{Place}
use Rattle.text_values.specs.declared.model.Item.{Item}
use Rattle.text_values.specs.TestValue.{Content, content_of}
use Rattle.litmus_printing.specs.Printing.{place_text}
use Rattle.binding_kinds.specs.Outermost.{outermost_names}
use Rattle.binding_kinds.specs.Value.{bare_item}
use Rattle.binding_graph.specs.declared.resolved.ResolvedItem.{ResolvedItem}
use Rattle.binding_graph.specs.Resolved.{AreResolved, AreLabelledAs}
use Rattle.candidate_spaces.specs.declared.candidate.Space.{Space}
use Rattle.candidates.specs.Listed.{ListsExecutions}
use Rattle.outcome_states.specs.declared.answer.CountedState as program_state
use Rattle.outcome_states.specs.declared.answer.Evaluation as program_evaluation
use Rattle.from_scratch.specs.Cell.{IsEvaluationBy}
use Rattle.meaning.specs.Names.{locations}
use Rattle.meaning.specs.Machine.{Value, Number, Address, NoValue}
use Rattle.meaning.specs.Outcome.{observables}
use Rattle.meaning_items.specs.FunctionLaws.{AreFaultless}
use Rattle.meaning_laws.specs.Words.{IsTestOfWords}
use Rattle.meaning_states.specs.ByName.{value_by_name}

-- a value: a number with its sign, the name of a location, or nothing
abbrev pub value_text : Value → List ℕ
value_text (Number n) = signed_decimal (cast_signed w32 n)
value_text (Address l) = l
value_text NoValue = []

-- what an observable holds, as `1:r1=0;`
abbrev pub held_text : Place → Value → List ℕ
held_text p v = place_text p ++ (codes "=" ++ (value_text v ++ codes ";"))

-- a state, its observables parted by one space
abbrev pub named_state_text : List Place → List Value → List ℕ
named_state_text ps vs = joined (codes " ") (map (λ x. held_text x.0 x.1) (zip ps vs))

-- The state has the text of its values, by name.
abbrev pub IsPrinted : Content → program_state.CountedState → Type 0
IsPrinted t st =
    st.text ≡ named_state_text (observables t) (map (value_by_name (locations t)) st.values)

-- So have the states that the items of a model without fault say over the space of a test.
abbrev pub StatesArePrinted : Type 0
StatesArePrinted =
    (t : Test) → IsTestOfWords (content_of t) → (s : Space) → ListsExecutions t s
    → (items : List Item) (resolved : List ResolvedItem) → AreFaultless items
    → AreResolved [] [] outermost_names 0 (map bare_item items) resolved
    → AreLabelledAs items resolved → (e : program_evaluation.Evaluation)
    → IsEvaluationBy resolved s t e → All (IsPrinted (content_of t)) e.states
