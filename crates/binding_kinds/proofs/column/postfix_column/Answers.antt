use Rattle.std.proofs.Common.{arith}
use Rattle.binding_kinds.specs.Combinations.{unknown}
use Rattle.binding_kinds.specs.Columns.{postfix_signature}
use Rattle.binding_kinds.proofs.Tables.{mapped_more, filled_all}
use Rattle.binding_kinds.proofs.column.postfix_column.Goals as goal

pub loop-one-preserved : goal.loop-one-preserved
loop-one-preserved c = λ arity rows operand h.
    mapped_more unknown _ unknown arity rows c.loop-one.one-index operand postfix_signature
    c.args.inner.now c.loop-one.column.items c.push.new.self.items c.sign_postfix.result
    (omega (arith, c.loop-one-test.true)) c.sign_postfix.ensures c.in_ok-push.ensures.items h
    (c.loop-one.invariant arity rows operand h)

pub returns : goal.returns
returns c =
    λ arity rows operand h. filled_all unknown unknown arity rows c.loop-one.one-index operand
    (λ ks. postfix_signature (operand ks)) c.args.inner.now c.loop-one.column.items h c.loop-one-test.false
    c.loop-one.auto.one-index-end (c.loop-one.invariant arity rows operand h)
