use Rattle.std.proofs.Common.{List, [], sym, subst, arith}
use Rattle.plain_models.specs.declared.value.Value.{Value}
use Rattle.plain_models.specs.Groups.{DoExtend}
use Rattle.plain_models.proofs.Stepping.{extend_next, extend_whole}
use Rattle.plain_models.proofs.group.all_extended.Goals as goal

pub loop-index-init : goal.loop-index-init
loop-index-init c =
    subst (λ (l : List Value). DoExtend [] [] l) (sym c.new-whole.ensures.items) tt

pub loop-index-preserved : goal.loop-index-preserved
loop-index-preserved c =
    extend_next c.args.values.now c.args.more.now c.loop-index.whole.items c.push.new.self.items
    c.loop-index.index c.index-values-index.result c.index-more-index.result c.in_ok-one.one
    (omega arith) (omega arith) c.loop-index.invariant c.index-values-index.is c.index-more-index.is
    c.in_ok-one.ensures c.in_ok-push.ensures.items

pub returns : goal.returns
returns c =
    extend_whole c.args.values.now c.args.more.now c.loop-index.whole.items c.loop-index.index
    (omega arith) (omega arith) c.loop-index.invariant
