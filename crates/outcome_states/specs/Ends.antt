-- The state in which a candidate ends, from the combination of runs that it is one of, as the code
-- reads it.
use Rattle.std.specs.Prelude.{ℕ, List, map, slice_get, unwrap_or, option_and_then}
use Rattle.std.specs.List.{filter_map}
use Rattle.store_orders.specs.declared.combination.Combination.{Combination}
use Rattle.candidate_spaces.specs.declared.candidate.Space.{Space}
use Rattle.candidate_spaces.specs.Space.{Candidate}
use Rattle.thread_runs.specs.declared.value.Value.{Value}
use Rattle.thread_runs.specs.declared.value.Value.TheVariants as run_values
use Rattle.outcome_states.specs.declared.answer.FinalValue.{FinalValue}
use Rattle.outcome_states.specs.Final.{value_shown, value_stored_at, last_or}
use Rattle.outcome_states.specs.declared.observable.Observable.{Observable}
use Rattle.outcome_states.specs.declared.observable.Observable.TheVariants as shown

-- what a register of a thread holds at the end of the thread's run
abbrev pub final_register : Space → Combination → ℕ → ℕ → Value
final_register space c thread register =
    unwrap_or
    (option_and_then
    (λ runs. option_and_then
    (λ run. option_and_then (λ registers. slice_get registers register)
    (slice_get runs.items run))
    (slice_get c.runs.items thread))
    (slice_get space.registers.items thread)) run_values.NoValue

-- what a location holds after stores in this order: what the last of them at it stores
abbrev pub final_word : Combination → List ℕ → ℕ → Value
final_word c coherence location =
    last_or run_values.NoValue (filter_map (value_stored_at c.events.items location) coherence)

-- what an observable holds at the end
abbrev pub candidate_final_value : Space → Combination → List ℕ → Observable → FinalValue
candidate_final_value space c coherence (shown.Register thread register) =
    value_shown (final_register space c thread register)
candidate_final_value space c coherence (shown.Location location) =
    value_shown (final_word c coherence location)

-- the state over these observables in which a candidate ends: a combination, and reads-from with an
-- order of the stores
abbrev pub candidate_final_state : Space → List Observable → Candidate → List FinalValue
candidate_final_state space observables x = map (candidate_final_value space x.0 x.1.1) observables
