use Rattle.std.proofs.Common.{◌<◌, ◌-◌, length, arith}
use Rattle.relation_cycles.proofs.Steps.{shortest, least_start, level_is, none_at}
use Rattle.relation_cycles.proofs.shortest_cycle.Goals as goal

pub returns-in-Some : goal.returns-in-Some
returns-in-Some c =
    let level = level_is c.args.relation.now c.in_ok-levels.levels.items c.in_ok-levels.ensures.levels c.index.result.now c.loop-steps.steps (omega arith) c.index.ensures in
    let start = least_start _ _ c.index.result.now c.in-Some.event c.loop-steps.steps level c.loop-steps.invariant c.in-Some.ensures in
    shortest _ c.in-Some.event c.loop-steps.steps _ c.in_ok-cycle.ensures.path
    c.in_ok-cycle.ensures.short c.in_ok-cycle.ensures.first start

pub loop-steps-preserved : goal.loop-steps-preserved
loop-steps-preserved c =
    none_at c.args.relation.now c.in_ok-levels.levels.items c.in_ok-levels.ensures.levels
    c.index.result.now c.loop-steps.steps (omega arith) c.index.ensures c.loop-steps.invariant
    c.in_default.ensures

pub returns : goal.returns
returns c = λ a p.
    let levels = c.in_ok-levels.levels.items in
    let some : 0 < length levels = c.in_ok-levels.ensures.some in
    c.loop-steps.invariant (length levels - 1) (omega arith) a (c.in_ok-levels.ensures.whole
    (length levels - 1) (omega arith) a a p)
