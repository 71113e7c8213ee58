use Rattle.std.proofs.Common.{arith}
use Rattle.run_combinations.proofs.Gathering.{no_source, one_source_more, all_sources}
use Rattle.run_combinations.proofs.reading.sources_of.Goals as goal

pub loop-number-init : goal.loop-number-init
loop-number-init c =
    no_source c.args.events.now c.args.load.now c.empty-found.result c.empty-found.ensures

pub loop-number-preserved : goal.loop-number-preserved
loop-number-preserved c =
    one_source_more c.args.events.now c.args.load.now c.loop-number.number _ c.is_source.result
    c.loop-number.found c.add_if.new.set (omega (arith, c.loop-number-test.true))
    c.is_source.ensures c.loop-number.invariant c.add_if.ensures

pub returns : goal.returns
returns c =
    all_sources c.args.events.now c.args.load.now c.loop-number.number c.loop-number.found
    (omega (arith, c.loop-number.auto.number-end, c.loop-number-test.false)) c.loop-number.invariant
