-- An outcome counts kept executions alone. Read `Fewer` first. Read next: Cut.
use Rattle.std.specs.Prelude.{ℕ, Bool, List}
use Rattle.text_values.specs.declared.test.Place.{Place}
use Rattle.text_values.specs.declared.test.Quantifier.{Quantifier}
use Rattle.text_values.specs.TestValue.{Formula}
use Rattle.candidate_spaces.specs.Space.{Shown}
use Rattle.verdict.specs.Evaluated.{IsOutcomeOn}
use Rattle.outcome_states.specs.Kept.{Flag}
use Rattle.outcome_states.specs.declared.answer.Outcome.{Outcome}
use Rattle.whole_outcomes.specs.Fewer.{AreFewer}

-- An outcome over the executions without some that a check refuses is one over all.
abbrev pub OutcomeOverFewer : Type 0
OutcomeOverFewer =
    (locations : List (List ℕ)) (all fewer : List Shown) (kind : Quantifier)
    (proposition : Formula) (observed : List Place) (checks less : List (List Bool))
    (flags lower : List Flag) (o : Outcome) → AreFewer checks less flags lower all fewer
    → IsOutcomeOn locations fewer kind proposition observed less lower o
    → IsOutcomeOn locations all kind proposition observed checks flags o
