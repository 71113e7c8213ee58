use Rattle.std.proofs.Common.{arith}
use Rattle.plain_models.specs.declared.scope.Bound.TheVariants as bounds
use Rattle.plain_models.proofs.Adding.{binds_none, binds_next, binds_whole}
use Rattle.plain_models.proofs.item.bind_values.Goals as goal

pub loop-index-init : goal.loop-index-init
loop-index-init c = binds_none c.args.outer.now.items

pub loop-index-preserved : goal.loop-index-preserved
loop-index-preserved c =
    binds_next c.args.group.now c.args.values.now c.args.outer.now.items c.loop-index.outer.items
    c.push.new.self.items c.loop-index.index c.index-group-index.result c.index-values-index.result
    (record { name = c.in_ok-name.name; bound = bounds.Value c.in_ok-value.value }) (omega arith)
    (omega arith) c.loop-index.invariant c.index-group-index.is c.index-values-index.is
    c.in_ok-name.ensures c.in_ok-value.ensures c.in_ok-push.ensures.items

pub returns : goal.returns
returns c =
    binds_whole c.args.group.now c.args.values.now c.args.outer.now.items c.loop-index.outer.items
    c.loop-index.index (omega arith) (omega arith) c.loop-index.invariant
