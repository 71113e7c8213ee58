use Rattle.std.proofs.Common.{sym, ap, ◌∙◌, arith, get_or}
use Rattle.litmus_tokens.specs.Lexer.{ends_raw}
use Rattle.litmus_tokens.proofs.Turns.{raw_stops, raw_goes, raw_ends}
use Rattle.litmus_tokens.proofs.lexer.raw_length.Goals as goal

pub returns-then-ends_raw-clause-value : goal.returns-then-ends_raw-clause-value
returns-then-ends_raw-clause-value c =
    sym (c.loop-i.invariant
    ∙ raw_stops c.args.text.now c.loop-i.i c.loop-i-test.true (ap
    (ends_raw (get_or c.args.text.now c.loop-i.i 0))
    (sym c.byte_at.ensures.value) ∙ sym c.ends_raw.ensures
    ∙ c.if-ends_raw.true))

pub loop-i-preserved : goal.loop-i-preserved
loop-i-preserved c =
    c.loop-i.invariant
    ∙ raw_goes c.args.text.now c.loop-i.i c.loop-i-test.true (ap
    (ends_raw (get_or c.args.text.now c.loop-i.i 0)) (sym c.byte_at.ensures.value)
    ∙ sym c.ends_raw.ensures ∙ c.if-ends_raw.false)

pub returns-clause-value : goal.returns-clause-value
returns-clause-value c =
    sym (c.loop-i.invariant ∙ raw_ends c.args.text.now c.loop-i.i c.loop-i-test.false ∙ omega arith)
