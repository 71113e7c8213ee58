-- The tokens that are taken are those that begin a proposition.
use Rattle.std.proofs.Common.{◌≡◌, ℕ, ◌<◌, true, List, [], ◌∷◌, ◌++◌, Some, refl}
use Rattle.text_values.specs.TestValue.{Formula}
use Rattle.litmus_tokens.specs.declared.token.Token.{Token}
use Rattle.litmus_tokens.specs.Faults.{Begins}
use Rattle.litmus_tokens.specs.Conditions.{Limits}
use Rattle.litmus_tokens.specs.ConditionMachine.{ConditionFrame, ConditionExpectation, Wants, ConditionStepResult, Goes, Ends, Refuses, proposition_step, whole_at, go_on, proposition}
use Rattle.litmus_tokens.specs.ConditionLaws.{takes_on, takes_tokens, IsPropositionText, TakesWhatBegins}
use Rattle.litmus_tokens.specs.Texts.{are_none}
use Rattle.litmus_tokens.proofs.Sound.{sound}
use Rattle.litmus_tokens.proofs.Complete.{complete}
use Rattle.litmus_tokens.proofs.Finishes.{finishes}

module _ (most : Limits) (threads : ℕ) where
  -- these tokens, and some behind them, end the proposition
  record GoesOn (fs : List ConditionFrame) (used : ℕ) (expected : ConditionExpectation) (ts : List Token)
      : Type 0 where
    rest : List Token
    value : Formula
    by : proposition most threads fs used expected (ts ++ rest) ≡ Some value

  goes_on : (ts : List Token) (fs : List ConditionFrame) (used : ℕ) (expected : ConditionExpectation)
      → takes_tokens most threads fs used expected ts ≡ true → GoesOn fs used expected ts
  goes_on [] fs used expected e =
      let f = finishes most threads fs used expected in
      record { rest = f.rest; value = f.value; by = f.by }
  goes_on (t ∷ ts) fs used expected e =
      let r = by_result (proposition_step most threads fs used expected t) e (λ gs u h. goes_on ts gs u h) in record { rest = r.0; value = r.1; by = r.2 }
    where
      by_end : (v : Formula) (us : List Token) → are_none us ≡ true
          → (rest : List Token) × (w : Formula) × (whole_at v (us ++ rest) ≡ Some w)
      by_end v [] k = ([], v, refl)
      by_end v (u ∷ us) k = absurd cc

      by_result : (x : ConditionStepResult) → takes_on (λ gs u h. takes_tokens most threads gs u h ts) ts x ≡ true
          → ((gs : List ConditionFrame) (u : ℕ) (h : ConditionExpectation) → takes_tokens most threads gs u h ts ≡ true
          → GoesOn gs u h ts)
          → (rest : List Token) × (w : Formula)
          × (go_on (λ gs u h. proposition most threads gs u h (ts ++ rest)) (ts ++ rest) x
          ≡ Some w)
      by_result (Goes gs u h) k later = let g = later gs u h k in (g.rest, g.value, g.by)
      by_result (Ends v) k later = by_end v ts k
      by_result Refuses k later = absurd cc

  or_refused : (ts us : List Token) (fs : List ConditionFrame) (used : ℕ) (expected : ConditionExpectation)
      (v : Formula) → proposition most threads fs used expected (ts ++ us) ≡ Some v
      → takes_tokens most threads fs used expected ts ≡ true
  or_refused [] us fs used expected v e = refl
  or_refused (t ∷ ts) us fs used expected v e =
      by_result (proposition_step most threads fs used expected t) e
      (λ gs u h. or_refused ts us gs u h v)
    where
      by_end : (w : Formula) (rs : List Token) → whole_at w (rs ++ us) ≡ Some v → are_none rs ≡ true
      by_end w [] k = refl
      by_end w (r ∷ rs) k = absurd cc

      by_result : (x : ConditionStepResult)
          → go_on (λ gs u h. proposition most threads gs u h (ts ++ us)) (ts ++ us) x ≡ Some v
          → ((gs : List ConditionFrame) (u : ℕ) (h : ConditionExpectation)
          → proposition most threads gs u h (ts ++ us) ≡ Some v
          → takes_tokens most threads gs u h ts ≡ true)
          → takes_on (λ gs u h. takes_tokens most threads gs u h ts) ts x ≡ true
      by_result (Goes gs u h) k later = later gs u h k
      by_result (Ends w) k later = by_end w ts k
      by_result Refuses k later = absurd cc

pub takes_beginnings : (most : Limits) (threads : ℕ) → threads < 18446744073709551616
    → TakesWhatBegins most threads
takes_beginnings most threads few ts = (found, only)
  where
    found : takes_tokens most threads [] 0 Wants ts ≡ true → Begins (IsPropositionText most threads) ts
    found e =
        let g = goes_on most threads ts [] 0 Wants e in
        record { rest = g.rest; text = record { value = g.value; text = sound most threads few (ts ++ g.rest) g.value g.by } }

    only : Begins (IsPropositionText most threads) ts → takes_tokens most threads [] 0 Wants ts ≡ true
    only b =
        or_refused most threads ts b.rest [] 0 Wants b.text.value (complete most threads few
        (ts ++ b.rest) b.text.value b.text.text)
