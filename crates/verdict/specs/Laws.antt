-- LAWS of outcomes: what `laws` states.
use Rattle.std.specs.Prelude.{ℕ, ◌≡◌, Bool, List}
use Rattle.text_values.specs.declared.test.Place.{Place}
use Rattle.text_values.specs.declared.test.Quantifier.{Quantifier}
use Rattle.text_values.specs.TestValue.{Formula}
use Rattle.candidate_spaces.specs.Space.{Shown}
use Rattle.verdict.specs.Evaluated.{IsOutcomeOn}
use Rattle.outcome_states.specs.Kept.{Flag}
use Rattle.outcome_states.specs.declared.answer.Outcome.{Outcome}

-- an outcome is the only one of its locations, its executions, its condition, what it observes, and
-- the answers of checks and flags
abbrev pub HasOneConditionOutcome : List (List ℕ) → List Shown → Quantifier → Formula → List Place
    → List (List Bool) → List Flag → Type 0
HasOneConditionOutcome locations executions kind proposition observed checks flags =
    (o p : Outcome) → IsOutcomeOn locations executions kind proposition observed checks flags o
    → IsOutcomeOn locations executions kind proposition observed checks flags p → o ≡ p
