-- An evaluation with names in place of the numbers of locations. Read next: States.
use Rattle.std.specs.Prelude.{List, [], map, slice_index_or}
use Rattle.outcome_states.specs.declared.answer.FinalValue.{FinalValue}
use Rattle.outcome_states.specs.declared.answer.FinalValue.TheVariants as finals
use Rattle.outcome_states.specs.declared.answer.CountedState as program_state
use Rattle.outcome_states.specs.declared.answer.Observation as program_observation
use Rattle.outcome_states.specs.declared.answer.Observation.TheVariants as observations
use Rattle.outcome_states.specs.declared.answer.Evaluation as program_evaluation
use Rattle.meaning.specs.Names.{Name}
use Rattle.meaning.specs.Machine.{Value, Address, NoValue, word}
use Rattle.meaning.specs.Outcome.{CountedState, Evaluation, Observation, Never, Sometimes, Always}

-- the value of a final state, where the list has the names of the locations in their order
abbrev pub value_by_name : List Name → FinalValue → Value
value_by_name names (finals.Number n) = word n
value_by_name names (finals.Address k) = Address (slice_index_or names k [])
value_by_name names finals.NoValue = NoValue

-- a final state with its count, without its text
abbrev pub state_by_name : List Name → program_state.CountedState → CountedState
state_by_name names s = record {
  values = map (value_by_name names) s.values;
  count = s.count;
  holds = s.holds;
}

-- in how many of the kept executions the proposition holds
abbrev pub observation_by_name : program_observation.Observation → Observation
observation_by_name observations.Never = Never
observation_by_name observations.Sometimes = Sometimes
observation_by_name observations.Always = Always

-- an evaluation, without the texts of its states
abbrev pub evaluation_by_name : List Name → program_evaluation.Evaluation → Evaluation
evaluation_by_name names e = record {
  states = map (state_by_name names) e.states;
  positive = e.positive;
  negative = e.negative;
  observation = observation_by_name e.observation;
  ok = e.ok;
  flags = e.flags;
}
