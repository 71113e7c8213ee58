-- What a page shows, as plain data: contracts see it so. Read this first, then Groups, Marks,
-- States, Names, Figures, StateTable and Details.
use Rattle.std.specs.Prelude.{ℕ, List}
use Rattle.outcome_states.specs.OutcomeContent.{OutcomeContent}

-- the name by which a model is called, and its text
pub record ReportedModel : Type 0 where
  pub name : List ℕ
  pub text : List ℕ

-- the name of a test, its text, and for each model in their order its outcome and its drawing, which
-- is empty where none is drawn
pub record ReportedTest : Type 0 where
  pub name : List ℕ
  pub text : List ℕ
  pub outcomes : List OutcomeContent
  pub drawings : List (List ℕ)

-- what is told of the texts that are refused, and of how many cells the drawings are left out
pub record Extras : Type 0 where
  pub refusals : List ℕ
  pub left_out : ℕ
