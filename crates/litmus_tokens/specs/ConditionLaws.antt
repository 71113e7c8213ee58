-- What the reader of propositions takes, in terms of the grammar.
use Rattle.std.specs.Prelude.{◌≡◌, ◌↔◌, ℕ, List, [], ◌∷◌, Bool, true, false, Some}
use Rattle.text_values.specs.TestValue.{Formula}
use Rattle.litmus_tokens.specs.declared.token.Token.{Token}
use Rattle.litmus_tokens.specs.Faults.{Begins}
use Rattle.litmus_tokens.specs.Texts.{are_none}
use Rattle.litmus_tokens.specs.Conditions.{Limits, IsProposition}
use Rattle.litmus_tokens.specs.ConditionMachine.{ConditionFrame, ConditionExpectation, Wants, ConditionStepResult, Goes, Ends, Refuses, proposition_step, proposition}

-- some tokens end the proposition that was begun
pub record FinishesFormula (most : Limits) (threads : ℕ) (frames : List ConditionFrame) (used : ℕ)
    (expected : ConditionExpectation) : Type 0 where
  pub rest : List Token
  pub value : Formula
  pub by : proposition most threads frames used expected rest ≡ Some value

abbrev pub takes_on : (List ConditionFrame → ℕ → ConditionExpectation → Bool) → List Token → ConditionStepResult → Bool
takes_on later ts (Goes fs used expected) = later fs used expected
takes_on later ts (Ends v) = are_none ts
takes_on later ts Refuses = false

-- whether each of these tokens is taken, one after another
abbrev pub takes_tokens : Limits → ℕ → List ConditionFrame → ℕ → ConditionExpectation → List Token → Bool
takes_tokens most threads fs used expected [] = true
takes_tokens most threads fs used expected (t ∷ ts) =
    takes_on (λ gs u h. takes_tokens most threads gs u h ts) ts
    (proposition_step most threads fs used expected t)

-- these tokens are a proposition, in a test of so many threads, and the end
pub record IsPropositionText (most : Limits) (threads : ℕ) (ts : List Token) : Type 0 where
  pub value : Formula
  pub text : IsProposition most threads ts value

-- The tokens that are taken are those that begin a proposition. So the first token that is refused
-- is the first with which the tokens begin none.
abbrev pub TakesWhatBegins : Limits → ℕ → Type 0
TakesWhatBegins most threads =
    (ts : List Token)
    → (takes_tokens most threads [] 0 Wants ts ≡ true) ↔ Begins (IsPropositionText most threads) ts
