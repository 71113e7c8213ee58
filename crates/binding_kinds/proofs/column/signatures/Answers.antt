use Rattle.std.proofs.Common.{◌^◌, sym, ap, ◌∙◌, arith}
use Rattle.binding_kinds.specs.Combinations.{unknown}
use Rattle.binding_kinds.specs.Columns.{of_function}
use Rattle.binding_kinds.proofs.Tables.{filled_more, entry_at, below_arity}
use Rattle.binding_kinds.proofs.column.signatures.Goals as goal

pub loop-combination-preserved : goal.loop-combination-preserved
loop-combination-preserved c = λ made h few.
    let arity = c.args.arity in
    filled_more unknown arity c.loop-combination.combination
    (λ kinds. of_function kinds (made kinds)) c.loop-combination.table.items
    c.push.new.self.items c.sign_function.result c.in_ok-push.ensures.items
    (c.loop-combination.invariant made h few)
    (λ ks long same. c.sign_function.ensures ks (sym same) (sym long) (omega (arith, long, few))
    ∙ ap (of_function ks) (entry_at unknown _ arity (3 ^ arity) c.loop-combination.combination made
    c.args.column.now ks h (omega (arith, c.loop-combination-test.true)) long same))

pub returns : goal.returns
returns c = λ made kinds h long few.
    let l = h.long in
    let b = below_arity kinds c.args.arity long in
    (c.loop-combination.invariant made h few).entries kinds long
    (omega (arith, c.loop-combination-test.false, l, b))
