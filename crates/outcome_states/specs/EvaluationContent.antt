-- What an evaluation says, without its layout in memory: contracts see a final state and an
-- evaluation so.
use Rattle.std.specs.Prelude.{ℕ, Bool, List}
use Rattle.outcome_states.specs.declared.answer.FinalValue.{FinalValue}
use Rattle.outcome_states.specs.declared.answer.Observation.{Observation}

-- a final state of kept candidates: its values, its text, how many candidates end in it, and
-- whether the proposition holds
pub record StateContent : Type 0 where
  pub values : List FinalValue
  pub text : List ℕ
  pub count : ℕ
  pub holds : Bool

-- the states, rising; how many kept candidates satisfy the proposition, and how many do not; the
-- words; the raised flags
pub record EvaluationContent : Type 0 where
  pub states : List StateContent
  pub positive : ℕ
  pub negative : ℕ
  pub observation : Observation
  pub ok : Bool
  pub flags : List (List ℕ)
