use Rattle.std.proofs.Common.{◌≡◌, arith}
use Rattle.base_names.proofs.Linking.{none_added, rows_nothing, rows_more, rows_done}
use Rattle.base_names.proofs.fixed.put_linked.Goals as goal

pub loop-from-init : goal.loop-from-init
loop-from-init c = none_added _ _ c.count-from-end.ensures.regular (rows_nothing _)

pub loop-from-preserved : goal.loop-from-preserved
loop-from-preserved c = rows_more _ _ _ c.loop-from.invariant c.put_linked_from.ensures

pub returns : goal.returns
returns c =
    let last : c.loop-from.from ≡ c.args.target.now.count = omega (arith, c.loop-from.auto, c.loop-from-test, c.count-from-end.ensures) in
    rows_done _ _ _ last c.loop-from.invariant
