use Rattle.std.proofs.Common.{length, ◌<◌, arith, ◌∙◌, refl}
use Rattle.binding_kinds.specs.declared.scope.Entry.{Entry}
use Rattle.binding_kinds.specs.declared.scope.Binder.TheVariants as binders
use Rattle.binding_kinds.specs.declared.kinds.Kind.TheVariants.{OfRelation}
use Rattle.binding_graph.proofs.Grown.{own_more}
use Rattle.binding_graph.proofs.declare.declare_own.Goals as goal

pub loop-position-preserved : goal.loop-position-preserved
loop-position-preserved c =
    let lt : c.loop-position.position < length c.args.group.now = omega arith in
    let e : Entry = record { name = c.in_ok-copied.field-0; kind = OfRelation; binder = binders.Bound (record { item = c.args.item; position = c.loop-position.position }) } in
    let is = c.index-group-position.is in
    rw (c.in_ok-push.ensures.items) (c.loop-position.invariant
    ∙ own_more c.args.group.now _ c.args.item c.index-group-position.result
    c.loop-position.entries.items e lt (rw (← is) c.in_ok-copied.ensures) refl refl)
