-- The final states of a test under all models, and how many kept executions end in each.
use Rattle.std.specs.Prelude.{ℕ, ◌==◌, not, Bool, false, if◌then◌else◌, List, [], ◌∷◌, fold}
use Rattle.std.specs.List.{list_any}
use Rattle.std.specs.declared.cmp.Ordering.{Ordering}
use Rattle.std.specs.declared.cmp.Ordering.TheVariants.{Less, Equal, Greater}
use Rattle.outcome_states.specs.declared.answer.CountedState.{CountedState}
use Rattle.outcome_states.specs.declared.answer.Outcome.{Outcome}
use Rattle.outcome_states.specs.Order.{state_cmp, is_state}
use Rattle.outcome_texts.specs.Differences.{result_states}

-- before the first state that is greater; of two equal states the first stays
abbrev pub placed : Ordering → (s t : CountedState) → (behind more : List CountedState)
    → List CountedState
placed Less s t behind more = s ∷ t ∷ behind
placed Equal s t behind more = t ∷ behind
placed Greater s t behind more = t ∷ more

-- a state in its place among states that rise, unless it is there
abbrev pub with_state : List CountedState → CountedState → List CountedState
with_state [] s = s ∷ []
with_state (t ∷ states) s =
    placed (state_cmp s.values t.values) s t states (with_state states s)

abbrev pub with_states : List CountedState → Outcome → List CountedState
with_states states o = fold with_state states (result_states o.result)

-- the states of all outcomes, rising
abbrev pub all_states : List Outcome → List CountedState
all_states outcomes = fold with_states [] outcomes

-- the count of a state among others, 0 where it is not there
abbrev pub count_among : List CountedState → CountedState → ℕ
count_among [] s = 0
count_among (t ∷ states) s =
    if is_state t.values s.values then t.count else count_among states s

-- how many kept executions end in a state
abbrev pub count_in : CountedState → Outcome → ℕ
count_in s o = count_among (result_states o.result) s

abbrev pub has_other_count : CountedState → ℕ → Outcome → Bool
has_other_count s count o = not (count_in s o == count)

-- whether a model has another count of a state than the first
abbrev pub is_counted_apart : List Outcome → CountedState → Bool
is_counted_apart [] s = false
is_counted_apart (o ∷ outcomes) s =
    list_any (has_other_count s (count_in s o)) (o ∷ outcomes)
