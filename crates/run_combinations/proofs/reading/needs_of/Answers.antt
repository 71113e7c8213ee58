use Rattle.std.proofs.Common.{arith, refl}
use Rattle.run_combinations.proofs.Gathering.{no_need, one_need_more, all_needs}
use Rattle.run_combinations.proofs.reading.needs_of.Goals as goal

pub loop-number-init : goal.loop-number-init
loop-number-init c =
    no_need c.args.events.now c.args.need_pairs.now c.args.store c.empty-found.result
    c.empty-found.ensures

pub loop-number-preserved : goal.loop-number-preserved
loop-number-preserved c =
    one_need_more c.args.events.now c.args.need_pairs.now c.args.store c.loop-number.number _ _
    c.is_need.result c.loop-number.found c.add_if.new.set (omega (arith, c.loop-number-test.true))
    refl c.is_need.ensures c.loop-number.invariant c.add_if.ensures

pub returns : goal.returns
returns c =
    all_needs c.args.events.now c.args.need_pairs.now c.args.store c.loop-number.number
    c.loop-number.found (omega (arith, c.loop-number.auto.number-end, c.loop-number-test.false))
    c.loop-number.invariant
