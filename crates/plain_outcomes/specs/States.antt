-- Final states, as the code lists and counts them. Read next: Kept.
use Rattle.std.specs.Prelude.{ℕ, suc, ◌≡◌, ◌⊎◌, List, [], ◌∷◌, Vec, map, take, drop, Contains, Bool, Option, Some, None}
use Rattle.std.specs.declared.alloc.Global.{Global}
use Rattle.meaning.specs.Machine as machine
use Rattle.meaning.specs.Outcome as outcome
use Rattle.meaning.specs.Outcome.{IsStateBefore}
use Rattle.meanings_exist.specs.Sorted.{IsGood}
use Rattle.plain_machine.specs.declared.value.Value.{Value}
use Rattle.plain_ends.specs.declared.ending.End.{End}
use Rattle.plain_ends.specs.Ends.{values_as}
use Rattle.plain_outcomes.specs.declared.states.CountedState.{CountedState}

abbrev pub final_state_as : Vec Value Global → List machine.Value
final_state_as v = values_as v.items

-- the states that the code has
abbrev pub states_as : List (Vec Value Global) → List (List machine.Value)
states_as vs = map final_state_as vs

abbrev pub end_state : End → List machine.Value
end_state e = values_as e.values.items

-- the states of ends
abbrev pub ends_as : List End → List (List machine.Value)
ends_as es = map end_state es

-- The states are of words, for so many observables.
pub record AreGood (states : List (List machine.Value)) : Type 0 where
  pub count : ℕ
  pub good : (s : List machine.Value) → Contains states s → IsGood count s

-- Among states in order the state is to be put at the index, or nowhere, since it is there.
abbrev pub IsPlaceOf : List machine.Value → List (List machine.Value) → Option ℕ → Type 0
IsPlaceOf s ss None = Contains ss s
IsPlaceOf s ss (Some k) =
    ((r : List machine.Value) → Contains (take k ss) r → IsStateBefore r s)
    × ((r : List machine.Value) → Contains (drop k ss) r → IsStateBefore s r)

-- So many things of the list have the property.
abbrev pub HaveCount : {A : Type 0} → (A → Type 0) → List A → ℕ → Type 0
HaveCount P [] n = n ≡ 0
HaveCount P (a ∷ rest) n =
    (P a × ((m : ℕ) × (n ≡ suc m) × HaveCount P rest m)) ⊎ ((P a → ⊥) × HaveCount P rest n)

-- If one of the ends is in the state, the answer is that of such an end.
abbrev pub IsAnswerOf : List End → List machine.Value → Bool → Type 0
IsAnswerOf ends s b =
    Contains (ends_as ends) s
    → (e : End) × Contains ends e × (end_state e ≡ s) × (e.holds ≡ b)

-- It is the state, with how many of the ends are in it, and what these answer.
pub record IsCountedOf (ends : List End) (s : List machine.Value) (c : CountedState) : Type 0 where
  pub values : values_as c.values.items ≡ s
  pub count : HaveCount (λ e. end_state e ≡ s) ends c.count
  pub holds : IsAnswerOf ends s c.holds

abbrev pub counted_as : CountedState → outcome.CountedState
counted_as c = record {
  values = values_as c.values.items;
  count = c.count;
  holds = c.holds;
}
