use Rattle.std.proofs.Common.{arith}
use Rattle.binding_kinds.specs.Combinations.{unknown}
use Rattle.binding_kinds.specs.Columns.{of_applied, none_gathered}
use Rattle.binding_kinds.proofs.Tables.{mapped_more, filled_all}
use Rattle.binding_kinds.proofs.column.applied_column.Goals as goal

pub loop-known-preserved : goal.loop-known-preserved
loop-known-preserved c = λ arity rows known h.
    mapped_more none_gathered _ unknown arity rows c.loop-known.known-index known
    (of_applied c.args.function.now) c.args.all.now c.loop-known.column.items
    c.push.new.self.items c.sign_applied.result (omega (arith, c.loop-known-test.true))
    c.sign_applied.ensures c.in_ok-push.ensures.items h
    (c.loop-known.invariant arity rows known h)

pub returns : goal.returns
returns c =
    λ arity rows known h. filled_all none_gathered unknown arity rows c.loop-known.known-index known
    (λ ks. of_applied c.args.function.now (known ks)) c.args.all.now c.loop-known.column.items h
    c.loop-known-test.false c.loop-known.auto.known-index-end
    (c.loop-known.invariant arity rows known h)
