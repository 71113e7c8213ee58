use Rattle.bench_nodes.proofs.Guessing.{apart_next, apart_ends}
use Rattle.bench_nodes.proofs.places.are_apart.Goals as goal

pub returns-then-not-is_new : goal.returns-then-not-is_new
returns-then-not-is_new c =
    apart_ends c.args.slots.now c.loop-index.index c.is_new.result c.loop-index-test.true
    c.if-not-is_new.true c.is_new.ensures

pub loop-index-preserved : goal.loop-index-preserved
loop-index-preserved c =
    apart_next c.args.slots.now c.loop-index.index c.is_new.result c.loop-index-test.true
    c.loop-index.invariant c.if-not-is_new.false c.is_new.ensures
