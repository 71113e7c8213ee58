use Rattle.std.proofs.Common.{◌≡◌, ◌+◌, Ok, ap, subst, ◌∙◌, arith, min, ◌-◌, length}
use Rattle.std.proofs.lemmas.Result.{IfErr-weaker}
use Rattle.cat_syntax.specs.ParserState.{state_of}
use Rattle.cat_grammar.specs.Grammar.{model_limits}
use Rattle.cat_syntax.specs.ReadingTexts.{FailsAt, StepsAt}
use Rattle.cat_grammar.specs.Running.{with_offset}
use Rattle.cat_grammar.specs.ItemMachine.{clause_step}
use Rattle.cat_tokens.specs.declared.token.Token.TheVariants.{End}
use Rattle.cat_grammar.specs.declared.form.Form.{Form}
use Rattle.cat_syntax.proofs.Texts.{layout_run, lexeme_run, lexeme_fails, end_steps}
use Rattle.cat_syntax.proofs.read.read_tokens.Goals as goal

pub loop-offset-preserved-in-Ok-Layout : goal.loop-offset-preserved-in-Ok-Layout
loop-offset-preserved-in-Ok-Layout c = record {
  before = omega arith;
  within = omega arith;
  form = c.loop-offset.invariant.form;
  ran =
      layout_run model_limits c.args.parser.now.form c.args.bytes.now c.loop-offset.before
      (state_of c.loop-offset.parser) c.loop-offset.offset c.in-Ok-Layout.n _ _
      c.loop-offset.invariant.ran _ (omega arith)
      (ap (λ k. c.loop-offset.offset + k) (c.min-offset.ensures
      ∙ ap (λ m. min m (length c.args.bytes.now - c.loop-offset.offset)) c.max.ensures))
      c.in-Ok-Layout.ensures c.in-Ok-Layout.field-0-is;
}

pub loop-offset-preserved : goal.loop-offset-preserved
loop-offset-preserved c = record {
  before = omega arith;
  within = omega arith;
  form = c.in-Ok.ensures.form ∙ c.loop-offset.invariant.form;
  ran =
      lexeme_run model_limits c.args.parser.now.form c.args.bytes.now c.loop-offset.before
      (state_of c.loop-offset.parser) c.loop-offset.offset c.in-Ok-Lexeme.n _ _
      c.loop-offset.invariant.ran _ c.in-Ok-Lexeme.token (state_of c.step_at.new.parser)
      (omega arith)
      (ap (λ k. c.loop-offset.offset + k) (c.min-offset-in-Ok.ensures
      ∙ ap (λ m. min m (length c.args.bytes.now - c.loop-offset.offset))
      c.max-in-Ok.ensures)) c.in-Ok-Lexeme.ensures c.in-Ok-Lexeme.field-0-is
      (subst
      (λ (f : Form). with_offset c.loop-offset.before c.loop-offset.offset
      (clause_step model_limits f (state_of c.loop-offset.parser) c.in-Ok-Lexeme.token)
      ≡ Ok (state_of c.step_at.new.parser)) c.loop-offset.invariant.form
      c.in-Ok.ensures.steps);
}

pub returns-in-Err-step_at-clause-steps : goal.returns-in-Err-step_at-clause-steps
returns-in-Err-step_at-clause-steps c =
    lexeme_fails model_limits c.args.parser.now.form c.args.bytes.now c.loop-offset.before
    (state_of c.loop-offset.parser) c.loop-offset.offset c.in-Ok-Lexeme.n 0 _
    c.loop-offset.invariant.ran _ c.in-Ok-Lexeme.token c.in-Err-step_at.fault (omega arith)
    c.in-Ok-Lexeme.ensures c.in-Ok-Lexeme.field-0-is (subst
    (λ (f : Form). FailsAt c.in-Err-step_at.fault (with_offset c.loop-offset.before
    c.loop-offset.offset (clause_step model_limits f (state_of c.loop-offset.parser)
    c.in-Ok-Lexeme.token))) c.loop-offset.invariant.form
    c.in-Err-step_at.ensures.steps)

pub returns-in-Err-step_at-clause-within : goal.returns-in-Err-step_at-clause-within
returns-in-Err-step_at-clause-within c =
    c.in-Err-step_at.ensures.within (length c.args.bytes.now) (omega arith) (omega arith)

pub returns-clause-steps : goal.returns-clause-steps
returns-clause-steps c =
    end_steps model_limits c.args.parser.now.form c.args.bytes.now c.loop-offset.before
    (state_of c.loop-offset.parser) c.loop-offset.offset 0 0 _ c.loop-offset.invariant.ran
    c.step_at-2.result c.step_at-2.new.parser c.loop-offset.invariant.within (omega arith)
    (subst
    (λ (f : Form). StepsAt c.step_at-2.result c.step_at-2.new.parser (with_offset
    c.loop-offset.before c.loop-offset.offset
    (clause_step model_limits f (state_of c.loop-offset.parser) End)))
    c.loop-offset.invariant.form c.step_at-2.ensures.steps)

pub returns-clause-within : goal.returns-clause-within
returns-clause-within c =
    IfErr-weaker c.step_at-2.result _ _
    (λ e within. within (length c.args.bytes.now) (omega arith) (omega arith))
    c.step_at-2.ensures.within
