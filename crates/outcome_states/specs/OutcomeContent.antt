-- What an outcome says, without its layout in memory: contracts see an outcome so.
use Rattle.std.specs.Prelude.{ℕ, List}
use Rattle.text_values.specs.declared.test.Quantifier.{Quantifier}
use Rattle.outcome_states.specs.declared.answer.OutcomeResult.{OutcomeResult}

-- the quantifier of the condition, the condition as it is printed, and the evaluation or the
-- refusal
pub record OutcomeContent : Type 0 where
  pub kind : Quantifier
  pub condition : List ℕ
  pub result : OutcomeResult
