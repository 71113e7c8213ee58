-- The state in which an execution ends.
use Rattle.std.specs.Prelude.{ℕ, ◌==◌, List, [], ◌∷◌, Option, Some, None, map, slice_get, unwrap_or, option_and_then, if◌then◌else◌}
use Rattle.std.specs.List.{filter_map}
use Rattle.std.specs.Int.{cast_signed, w32}
use Rattle.store_orders.specs.declared.combination.Action.{Action}
use Rattle.store_orders.specs.declared.combination.Action.TheVariants as actions
use Rattle.store_orders.specs.declared.combination.Event.{Event}
use Rattle.candidate_spaces.specs.Space.{Shown}
use Rattle.thread_runs.specs.declared.value.Value.{Value}
use Rattle.thread_runs.specs.declared.value.Value.TheVariants as run_values
use Rattle.outcome_states.specs.declared.answer.FinalValue.{FinalValue}
use Rattle.outcome_states.specs.declared.answer.FinalValue.TheVariants as values
use Rattle.outcome_states.specs.declared.observable.Observable.{Observable}
use Rattle.outcome_states.specs.declared.observable.Observable.TheVariants as shown

-- a value as states have it: numbers are signed
abbrev pub value_shown : Value → FinalValue
value_shown (run_values.Number n) = values.Number (cast_signed w32 n)
value_shown (run_values.Address l) = values.Address l
value_shown run_values.NoValue = values.NoValue

-- what a register of a thread holds at the end
abbrev pub final_register : Shown → ℕ → ℕ → Value
final_register e thread register =
    unwrap_or
    (option_and_then (λ registers. slice_get registers register) (slice_get e.registers thread))
    run_values.NoValue

-- what an action stores at a location, if it stores there
abbrev pub value_stored_by : ℕ → Action → Option Value
value_stored_by location (actions.Store to value) = if to == location then Some value else None
value_stored_by location (actions.Load from value) = None
value_stored_by location (actions.Fence f) = None

-- what an event stores at a location, if it stores there
abbrev pub value_stored_at : List Event → ℕ → ℕ → Option Value
value_stored_at events location event =
    option_and_then (λ e. value_stored_by location e.action) (slice_get events event)

-- the last of a list, or this where it has none
abbrev pub last_or : {X : Type 0} → X → List X → X
last_or d [] = d
last_or d (x ∷ xs) = last_or x xs

-- what a location holds at the end: what the last store at it stores, in coherence order
abbrev pub final_word : Shown → ℕ → Value
final_word e location =
    last_or run_values.NoValue (filter_map (value_stored_at e.events location) e.coherence)

-- what an observable holds at the end
abbrev pub final_value : Shown → Observable → FinalValue
final_value e (shown.Register thread register) = value_shown (final_register e thread register)
final_value e (shown.Location location) = value_shown (final_word e location)

-- the state over these observables in which an execution ends
abbrev pub final_state : List Observable → Shown → List FinalValue
final_state observables e = map (final_value e) observables
