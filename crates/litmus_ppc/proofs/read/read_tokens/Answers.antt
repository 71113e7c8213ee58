use Rattle.std.proofs.Common.{◌+◌, ◌-◌, length, drop, take, min, ap, ◌∙◌, arith}
use Rattle.litmus_tokens.specs.Lexer.{first_lexeme}
use Rattle.litmus_ppc.specs.TextReading.{state_of}
use Rattle.litmus_ppc.proofs.Turns.{layout_run, lexeme_run, lexeme_fails, end_steps}
use Rattle.litmus_ppc.proofs.read.read_tokens.Goals as goal

pub loop-offset-preserved-in-Ok-Layout : goal.loop-offset-preserved-in-Ok-Layout
loop-offset-preserved-in-Ok-Layout c = record {
  within = omega arith;
  ran =
      layout_run c.args.bytes.now (state_of c.loop-offset.reader) c.loop-offset.is_fresh
      c.loop-offset.offset c.in-Ok-Layout.n _ _ c.loop-offset.invariant.ran _ _ (omega arith)
      (ap (λ k. c.loop-offset.offset + k) (c.min-offset.ensures
      ∙ ap (λ m. min m (length c.args.bytes.now - c.loop-offset.offset)) c.max.ensures))
      (c.in-Ok-Layout.ensures
      ∙ ap
      (λ g. first_lexeme g c.loop-offset.is_fresh (take
      (length c.args.bytes.now - c.loop-offset.offset)
      (drop c.loop-offset.offset c.args.bytes.now))) c.stage.ensures)
      c.in-Ok-Layout.field-0-is c.is_fresh_behind-is_fresh.ensures;
}

pub loop-offset-preserved : goal.loop-offset-preserved
loop-offset-preserved c = record {
  within = omega arith;
  ran =
      lexeme_run c.args.bytes.now (state_of c.loop-offset.reader) c.loop-offset.is_fresh
      c.loop-offset.offset c.in-Ok-Lexeme.n _ _ c.loop-offset.invariant.ran _ c.in-Ok-Lexeme.token
      (state_of c.step.new.self) _ (omega arith)
      (ap (λ k. c.loop-offset.offset + k) (c.min-offset-in-Ok.ensures
      ∙ ap (λ m. min m (length c.args.bytes.now - c.loop-offset.offset))
      c.max-in-Ok.ensures))
      (c.in-Ok-Lexeme.ensures
      ∙ ap
      (λ g. first_lexeme g c.loop-offset.is_fresh (take
      (length c.args.bytes.now - c.loop-offset.offset)
      (drop c.loop-offset.offset c.args.bytes.now))) c.stage.ensures)
      c.in-Ok-Lexeme.field-0-is c.is_line_end-is_fresh.ensures c.in-Ok.ensures;
}

pub returns-in-Err-step : goal.returns-in-Err-step
returns-in-Err-step c =
    lexeme_fails c.args.bytes.now (state_of c.loop-offset.reader) c.loop-offset.is_fresh
    c.loop-offset.offset c.in-Ok-Lexeme.n 0 _ c.loop-offset.invariant.ran _ c.in-Ok-Lexeme.token
    c.in-Err-step.fault (omega arith)
    (c.in-Ok-Lexeme.ensures
    ∙ ap
    (λ g. first_lexeme g c.loop-offset.is_fresh (take
    (length c.args.bytes.now - c.loop-offset.offset)
    (drop c.loop-offset.offset c.args.bytes.now))) c.stage.ensures)
    c.in-Ok-Lexeme.field-0-is c.in-Err-step.ensures

pub returns : goal.returns
returns c =
    end_steps c.args.bytes.now (state_of c.loop-offset.reader) c.loop-offset.is_fresh
    c.loop-offset.offset 0 0 _ c.loop-offset.invariant.ran c.step-2.result c.step-2.new.self
    (omega arith) c.step-2.ensures
