-- What a proposition over the observables of a state says of it.
use Rattle.std.specs.Prelude.{ℕ, ◌≡◌, Bool, true, false, not, List, Option, Some, None, map, slice_get}
use Rattle.text_values.specs.declared.test.Place.{Place}
use Rattle.text_values.specs.TestValue as text
use Rattle.outcome_states.specs.Meaning.{is_value, joined_by, satisfies, observables_of}
use Rattle.outcome_states.specs.Shown.{known_observables, is_among}
use Rattle.outcome_states.specs.declared.answer.FinalValue.{FinalValue}
use Rattle.outcome_states.specs.declared.formula.Formula as code
use Rattle.outcome_states.specs.declared.formula.Formula.TheVariants as formulas
use Rattle.outcome_states.specs.declared.observable.Observable.{Observable}

abbrev pub holds_final_value : Option FinalValue → FinalValue → Bool
holds_final_value None value = false
holds_final_value (Some content) value = is_value content value

-- whether it is true of the state
abbrev pub value_of : List FinalValue → code.Formula → Bool
value_of state (formulas.Constant b) = b
value_of state (formulas.Holds at value) = holds_final_value (slice_get state at) value
value_of state (formulas.Not' p a) = not (value_of state a)
value_of state (formulas.Joined' op p a q b) = joined_by op (value_of state a) (value_of state b)

-- all known observables of a text are among these
abbrev pub Shows : List (List ℕ) → List Observable → List Place → Type 0
Shows locations shown observables =
    (p : Observable) → is_among (known_observables locations observables) p ≡ true
    → is_among shown p ≡ true

-- it is true of each state over these observables just where the proposition is
abbrev pub Compiles : List (List ℕ) → List Observable → text.Formula → code.Formula → Type 0
Compiles locations shown proposition f =
    Shows locations shown (observables_of proposition) → (content : Observable → FinalValue)
    → value_of (map content shown) f ≡ satisfies locations content proposition
