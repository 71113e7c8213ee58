use Rattle.std.proofs.Common.{ap, ◌∙◌, arith}
use Rattle.binding_kinds.specs.Combinations.{unknown}
use Rattle.binding_kinds.specs.Columns.{infix_signature}
use Rattle.binding_kinds.proofs.Tables.{zipped_more, filled_all}
use Rattle.binding_kinds.proofs.column.infix_column.Goals as goal

pub loop-combination-preserved : goal.loop-combination-preserved
loop-combination-preserved c = λ arity rows first second h k.
    zipped_more unknown _ unknown unknown arity rows c.loop-combination.combination first second
    (infix_signature c.args.op) c.args.left.now c.args.right.now c.loop-combination.column.items
    c.push.new.self.items c.sign_infix.result (omega (arith, c.loop-combination-test.true))
    (λ ks same. c.sign_infix.ensures ∙ ap (infix_signature c.args.op _) c.at.ensures)
    c.in_ok-push.ensures.items h k (c.loop-combination.invariant arity rows first second h k)

pub returns : goal.returns
returns c =
    λ arity rows first second h k. filled_all unknown unknown arity rows
    c.loop-combination.combination first (λ ks. infix_signature c.args.op (first ks) (second ks))
    c.args.left.now c.loop-combination.column.items h c.loop-combination-test.false
    c.loop-combination.auto.combination-end
    (c.loop-combination.invariant arity rows first second h k)
