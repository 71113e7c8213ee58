-- The loop over a text.
use Rattle.std.proofs.Common.{◌≡◌, ℕ, ◌+◌, ◌-◌, ◌<◌, ◌≤◌, List, length, take, drop, Result, Ok, Err, refl, ap, subst, ◌∙◌, arith, min}
use Rattle.std.specs.Prelude.{max, Bool, if◌then◌else◌}
use Rattle.std.proofs.lemmas.List.{length-drop}
use Rattle.std.proofs.lemmas.List.{take_all}
use Rattle.std.proofs.lemmas.Bool.{lt-ltb, le-ltb}
use Rattle.cat_syntax.specs.declared.fault.CatFault.{CatFault}
use Rattle.cat_syntax.specs.declared.fault.CatFault.TheVariants as faults
use Rattle.cat_tokens.specs.declared.rule.CatRule.{CatRule}
use Rattle.cat_tokens.specs.declared.rule.CatRule.TheVariants.{TooLong}
use Rattle.cat_expressions.specs.declared.frames.StepError.{StepError}
use Rattle.cat_expressions.specs.declared.frames.StepError.TheVariants as errors
use Rattle.cat_grammar.specs.declared.form.Form.{Form}
use Rattle.cat_tokens.specs.declared.token.Token.{Token}
use Rattle.cat_tokens.specs.declared.token.Token.TheVariants as tokens
use Rattle.cat_tokens.specs.declared.lexer.NextLexeme.{NextLexeme}
use Rattle.cat_tokens.specs.declared.lexer.NextLexeme.TheVariants.{Layout, Lexeme}
use Rattle.cat_tokens.specs.Lexer.{first_model_lexeme, tokens_from, model_lexing}
use Rattle.cat_grammar.specs.Grammar.{Limits, model_limits}
use Rattle.cat_grammar.specs.ItemMachine.{ItemState, Fault, clause_step, clause_start}
use Rattle.cat_syntax.specs.ReadingItems.{Fails}
use Rattle.cat_syntax.specs.declared.items.Parser.{Parser}
use Rattle.cat_syntax.specs.ParserState.{state_of}
use Rattle.cat_syntax.specs.ReadingTexts.{reading, FailsAt, StepsAt}
use Rattle.cat_tokens.proofs.Lexed.{layout_turn, lexeme_turn, at_end}
use Rattle.cat_grammar.specs.Running.{ItemsResult, with_offset, and_then, run_items, items_of}

-- one token, at its offset or at the offset before
module _ (before offset : ℕ) (made : Result ItemState Fault) where
  pub step_goes : (s : ItemState) → made ≡ Ok s → with_offset before offset made ≡ Ok s
  step_goes s e = ap (with_offset before offset) e

  pub step_fails : (e : StepError) (rule : CatRule) → e ≡ errors.Refused rule → Fails e made
      → with_offset before offset made ≡ Err (rule, offset)
  step_fails e rule is h =
      ap (with_offset before offset) (subst (λ (x : StepError). Fails x made) is h)

  pub step_fails_before : (e : StepError) (rule : CatRule) → e ≡ errors.RefusedBefore rule
      → Fails e made → with_offset before offset made ≡ Err (rule, before)
  step_fails_before e rule is h =
      ap (with_offset before offset) (subst (λ (x : StepError). Fails x made) is h)

-- the reader's turns
module _ (most : Limits) (form : Form) (bytes : List ℕ) (before : ℕ) (s : ItemState) (p n q : ℕ)
    (all : ItemsResult) (so_far : all ≡ run_items most form before s (tokens_from 0 p (drop p bytes))) where
  whole_rest : first_model_lexeme (take (length bytes - p) (drop p bytes)) ≡ first_model_lexeme (drop p bytes)
  whole_rest =
      ap first_model_lexeme (take_all (length bytes - p) (drop p bytes)
      (let l = length-drop p bytes in omega arith))

  pub layout_run : (f : NextLexeme) → p < length bytes → q ≡ p + min (max n 1) (length bytes - p)
      → f ≡ first_model_lexeme (take (length bytes - p) (drop p bytes)) → f ≡ Layout n
      → all ≡ run_items most form before s (tokens_from 0 q (drop q bytes))
  layout_run f lt is e k =
      so_far ∙ ap (run_items most form before s) (layout_turn bytes p n q lt is f (e ∙ whole_rest) k)

  pub lexeme_run : (f : NextLexeme) (t : Token) (s' : ItemState) → p < length bytes
      → q ≡ p + min (max n 1) (length bytes - p)
      → f ≡ first_model_lexeme (take (length bytes - p) (drop p bytes)) → f ≡ Lexeme t n
      → with_offset before p (clause_step most form s t) ≡ Ok s'
      → all ≡ run_items most form p s' (tokens_from 0 q (drop q bytes))
  lexeme_run f t s' lt is e k goes =
      so_far ∙ ap (run_items most form before s) (lexeme_turn bytes p n q lt is f t (e ∙ whole_rest) k)
      ∙ ap (λ (r : ItemsResult). and_then r (λ x. run_items most form p x (tokens_from 0 q (drop q bytes))))
      goes

  pub lexeme_fails : (f : NextLexeme) (t : Token) (d : CatFault) → p < length bytes
      → f ≡ first_model_lexeme (take (length bytes - p) (drop p bytes)) → f ≡ Lexeme t n
      → FailsAt d (with_offset before p (clause_step most form s t)) → FailsAt d all
  lexeme_fails f t (faults.OutOfMemory x) lt e k fails = tt
  lexeme_fails f t (faults.Refused rule offset) lt e k fails =
      let r = p + min (max n 1) (length bytes - p) in
      so_far ∙ ap (run_items most form before s) (lexeme_turn bytes p n r lt refl f t (e ∙ whole_rest) k)
      ∙ ap (λ (y : ItemsResult). and_then y (λ z. run_items most form p z (tokens_from 0 r (drop r bytes))))
      fails

  pub end_run : (s' : ItemState) → p ≤ length bytes → length bytes ≤ p
      → with_offset before p (clause_step most form s tokens.End) ≡ Ok s' → all ≡ Ok s'
  end_run s' low high goes =
      so_far ∙ ap (run_items most form before s) (at_end bytes p low high)
      ∙ ap (λ (r : ItemsResult). and_then r (λ x. Ok x)) goes

  pub end_fails : (d : CatFault) → p ≤ length bytes → length bytes ≤ p
      → FailsAt d (with_offset before p (clause_step most form s tokens.End)) → FailsAt d all
  end_fails (faults.OutOfMemory x) low high fails = tt
  end_fails (faults.Refused rule offset) low high fails =
      so_far ∙ ap (run_items most form before s) (at_end bytes p low high)
      ∙ ap (λ (r : ItemsResult). and_then r (λ x. Ok x)) fails

  pub end_steps : (r : Result (Unit {0}) CatFault) (parser : Parser) → p ≤ length bytes
      → length bytes ≤ p → StepsAt r parser (with_offset before p (clause_step most form s tokens.End))
      → StepsAt r parser all
  end_steps (Ok u) parser low high goes = end_run (state_of parser) low high goes
  end_steps (Err d) parser low high fails = end_fails d low high fails

-- the parser before a text stands at the start
pub at_start : (form f : Form) (s : ItemState) (bytes : List ℕ) → f ≡ form → s ≡ clause_start form
    → run_items model_limits f 0 s (model_lexing bytes) ≡ run_items model_limits form 0 (clause_start form) (model_lexing bytes)
at_start form f s bytes forms states = λ i. run_items model_limits (forms i) 0 (states i) (model_lexing bytes)

-- the length is looked at first
pub too_long : (form : Form) (bytes : List ℕ) → 65536 < length bytes
    → reading form bytes ≡ Err (TooLong, 65536)
unfolding reading
too_long form bytes lt =
    ap
    (λ (b : Bool). if b then Err (TooLong, 65536)
    else items_of (run_items model_limits form 0 (clause_start form) (model_lexing bytes)))
    (lt-ltb 65536 (length bytes) lt)

pub fits : (form : Form) (bytes : List ℕ) → length bytes ≤ 65536
    → reading form bytes ≡ items_of (run_items model_limits form 0 (clause_start form) (model_lexing bytes))
unfolding reading
fits form bytes le =
    ap
    (λ (b : Bool). if b then Err (TooLong, 65536)
    else items_of (run_items model_limits form 0 (clause_start form) (model_lexing bytes)))
    (le-ltb 65536 (length bytes) le)

pub refused : (form : Form) (bytes : List ℕ) (d : CatFault) → length bytes ≤ 65536
    → FailsAt d (run_items model_limits form 0 (clause_start form) (model_lexing bytes)) → FailsAt d (reading form bytes)
refused form bytes (faults.OutOfMemory x) le fails = tt
refused form bytes (faults.Refused rule offset) le fails = fits form bytes le ∙ ap items_of fails
