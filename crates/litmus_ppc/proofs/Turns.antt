-- The turns of the loop over the tokens of a text.
use Rattle.std.proofs.Common.{◌≡◌, ℕ, ◌+◌, ◌-◌, ◌<◌, ◌≤◌, Bool, List, length, get_or, take, drop, Option, Some, None, Result, Ok, Err, refl, sym, ap, ◌∙◌, arith, min}
use Rattle.std.specs.Prelude.{max}
use Rattle.std.proofs.lemmas.List.{length-drop, take_all}
use Rattle.litmus_tokens.specs.declared.stage.Stage.{Stage}
use Rattle.litmus_tokens.specs.declared.token.Token.{Token}
use Rattle.litmus_tokens.specs.declared.token.Token.TheVariants as tokens
use Rattle.litmus_tokens.specs.declared.lexer.NextLexeme.{NextLexeme}
use Rattle.litmus_tokens.specs.declared.lexer.NextLexeme.TheVariants.{Layout, Lexeme}
use Rattle.litmus_tokens.specs.Lexer.{first_lexeme}
use Rattle.litmus_tokens.specs.Stage.{next_stage}
use Rattle.litmus_tokens.specs.Texts.{ends_line, fresh_after, tokens_from}
use Rattle.litmus_grammar.proofs.Lexed.{layout_turn, lexeme_turn, at_end}
use Rattle.litmus_ppc.specs.declared.fault.LitmusFault.{LitmusFault}
use Rattle.litmus_ppc.specs.declared.fault.LitmusFault.TheVariants as faults
use Rattle.litmus_ppc.specs.declared.reader.Reader.{Reader}
use Rattle.litmus_grammar.specs.TextMachine.{Next, TextState, stepped, part_step, text_step, TextResult, with_offset, and_then, run_parts}
use Rattle.litmus_ppc.specs.TextReading.{state_of, FailsAt, StepsAt}

-- the part behind a token that was taken
stage_after_step : (s s' : TextState) (t : Token) (p : ℕ) → with_offset p (text_step s t p) ≡ Ok s'
    → s'.stage ≡ next_stage s.stage t
stage_after_step s s' t p e = by_next (part_step s.kind s.threads s.draft s.part t p) e
  where
    by_next : (o : Option Next) → with_offset p (stepped s t o) ≡ Ok s' → s'.stage ≡ next_stage s.stage t
    by_next (Some n) h = cc
    by_next None h = absurd cc

-- the reader's turns
module _ (bytes : List ℕ) (s : TextState) (fresh : Bool) (p n q : ℕ) (all : TextResult)
    (so_far : all ≡ run_parts s (tokens_from s.stage fresh 0 p (drop p bytes))) where
  whole_rest : (f : NextLexeme) → f ≡ first_lexeme s.stage fresh (take (length bytes - p) (drop p bytes))
      → f ≡ first_lexeme s.stage fresh (drop p bytes)
  whole_rest f e =
      e
      ∙ ap (first_lexeme s.stage fresh) (take_all (length bytes - p) (drop p bytes)
      (let l = length-drop p bytes in omega arith))

  pub layout_run : (f : NextLexeme) (fresh' : Bool) → p < length bytes
      → q ≡ p + min (max n 1) (length bytes - p)
      → f ≡ first_lexeme s.stage fresh (take (length bytes - p) (drop p bytes)) → f ≡ Layout n
      → fresh' ≡ fresh_after fresh (get_or bytes p 0)
      → all ≡ run_parts s (tokens_from s.stage fresh' 0 q (drop q bytes))
  layout_run f fresh' lt is e k now =
      so_far ∙ ap (run_parts s) (layout_turn bytes p n q lt is s.stage fresh f (whole_rest f e) k)
      ∙ ap (λ b. run_parts s (tokens_from s.stage b 0 q (drop q bytes))) (sym now)

  pub lexeme_run : (f : NextLexeme) (t : Token) (s' : TextState) (fresh' : Bool) → p < length bytes
      → q ≡ p + min (max n 1) (length bytes - p)
      → f ≡ first_lexeme s.stage fresh (take (length bytes - p) (drop p bytes)) → f ≡ Lexeme t n
      → fresh' ≡ ends_line t → with_offset p (text_step s t p) ≡ Ok s'
      → all ≡ run_parts s' (tokens_from s'.stage fresh' 0 q (drop q bytes))
  lexeme_run f t s' fresh' lt is e k now goes =
      so_far ∙ ap (run_parts s) (lexeme_turn bytes p n q lt is s.stage fresh f t (whole_rest f e) k)
      ∙ ap
      (λ (r : TextResult). and_then r (λ x.
      run_parts x (tokens_from (next_stage s.stage t) (ends_line t) 0 q (drop q bytes)))) goes
      ∙ ap (λ b. run_parts s' (tokens_from (next_stage s.stage t) b 0 q (drop q bytes))) (sym now)
      ∙ ap (λ (g : Stage). run_parts s' (tokens_from g fresh' 0 q (drop q bytes)))
      (sym (stage_after_step s s' t p goes))

  pub lexeme_fails : (f : NextLexeme) (t : Token) (d : LitmusFault) → p < length bytes
      → f ≡ first_lexeme s.stage fresh (take (length bytes - p) (drop p bytes)) → f ≡ Lexeme t n
      → FailsAt d (with_offset p (text_step s t p)) → FailsAt d all
  lexeme_fails f t (faults.OutOfMemory x) lt e k fails = tt
  lexeme_fails f t (faults.Refused rule offset) lt e k fails =
      let r = p + min (max n 1) (length bytes - p) in
      so_far ∙ ap (run_parts s) (lexeme_turn bytes p n r lt refl s.stage fresh f t (whole_rest f e) k)
      ∙ ap
      (λ (y : TextResult). and_then y (λ x.
      run_parts x (tokens_from (next_stage s.stage t) (ends_line t) 0 r (drop r bytes)))) fails

  end_run : (s' : TextState) → length bytes ≤ p → with_offset p (text_step s tokens.End p) ≡ Ok s'
      → all ≡ Ok s'
  end_run s' high goes =
      so_far ∙ ap (run_parts s) (at_end s.stage fresh bytes p high)
      ∙ ap (λ (r : TextResult). and_then r (λ x. Ok x)) goes

  end_fails : (d : LitmusFault) → length bytes ≤ p → FailsAt d (with_offset p (text_step s tokens.End p))
      → FailsAt d all
  end_fails (faults.OutOfMemory x) high fails = tt
  end_fails (faults.Refused rule offset) high fails =
      so_far ∙ ap (run_parts s) (at_end s.stage fresh bytes p high)
      ∙ ap (λ (r : TextResult). and_then r (λ x. Ok x)) fails

  pub end_steps : (r : Result (Unit {0}) LitmusFault) (now : Reader) → length bytes ≤ p
      → StepsAt r now (with_offset p (text_step s tokens.End p)) → StepsAt r now all
  end_steps (Ok u) now high h = end_run (state_of now) high h
  end_steps (Err d) now high h = end_fails d high h
