-- The reader over a list of tokens.
use Rattle.std.proofs.Common.{◌≡◌, List, [], ◌∷◌, ◌++◌, Result, Ok, Err, ap}
use Rattle.cat_grammar.specs.declared.form.Form.{Form}
use Rattle.cat_tokens.specs.declared.token.Token.{Token}
use Rattle.cat_grammar.specs.Grammar.{Limits}
use Rattle.cat_grammar.specs.ItemMachine.{Fault, ItemState, clause_step}

infixl 10 ◌>>=◌
abbrev pub ◌>>=◌ : {A B : Type 0} → Result A Fault → (A → Result B Fault) → Result B Fault
(Ok x) >>= f = f x
(Err e) >>= f = Err e

-- the tokens one after another
abbrev pub run_over : Limits → Form → ItemState → List Token → Result ItemState Fault
run_over most form s [] = Ok s
run_over most form s (t ∷ ts) = clause_step most form s t >>= λ s'. run_over most form s' ts

pub run_over-append : (most : Limits) (form : Form) (s s' : ItemState) (ts us : List Token)
    → run_over most form s ts ≡ Ok s' → run_over most form s (ts ++ us) ≡ run_over most form s' us
run_over-append most form s s' [] us e =
    ap (λ (r : Result ItemState Fault). r >>= λ x. run_over most form x us) e
run_over-append most form s s' (t ∷ ts) us e =
    by_step (clause_step most form s t) e (λ x k. run_over-append most form x s' ts us k)
  where
    by_step : (r : Result ItemState Fault) → (r >>= λ x. run_over most form x ts) ≡ Ok s'
        → ((x : ItemState) → run_over most form x ts ≡ Ok s'
        → run_over most form x (ts ++ us) ≡ run_over most form s' us)
        → (r >>= λ x. run_over most form x (ts ++ us)) ≡ run_over most form s' us
    by_step (Ok x) k f = f x k
    by_step (Err d) k f = absurd cc
