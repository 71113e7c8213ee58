use Rattle.std.proofs.Common.{◌<◌, length, arith, refl}
use Rattle.fault_texts.proofs.Placing.{searched_more, searched_found, searched_all}
use Rattle.fault_texts.proofs.items.find_fault.Goals as goal

pub loop-index-preserved : goal.loop-index-preserved
loop-index-preserved c = λ ss kept.
    let lt : c.loop-index.index < length c.args.items.now = omega arith in
    searched_more ss _ c.loop-index.scope.entries.items c.loop-index.scope.functions.items
    c.args.items.now c.loop-index.index c.index-items-index.result c.in_ok-fault.fault lt
    c.index-items-index.is (c.loop-index.invariant ss kept) c.in_ok-fault.ensures.fault
    c.declare_item.new.scope.entries.items c.declare_item.new.scope.functions.items c.in-None.is
    c.in_ok-fault.ensures.names c.in_ok-fault.ensures.functions

pub returns-in-Some : goal.returns-in-Some
returns-in-Some c = λ ss kept.
    let lt : c.loop-index.index < length c.args.items.now = omega arith in
    searched_found ss _ c.loop-index.scope.entries.items c.loop-index.scope.functions.items
    c.args.items.now c.loop-index.index c.index-items-index.result c.in_ok-fault.fault lt
    c.index-items-index.is (c.loop-index.invariant ss kept) c.in_ok-fault.ensures.fault
    c.in-Some.found _ c.in-Some.is refl

pub returns : goal.returns
returns c =
    λ ss kept. searched_all ss _ _ _ c.args.items.now c.loop-index.index (omega arith)
    (c.loop-index.invariant ss kept)
