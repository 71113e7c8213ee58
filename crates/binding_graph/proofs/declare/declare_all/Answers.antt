use Rattle.std.proofs.Common.{length, ◌<◌, arith, ◌∙◌, refl, sym}
use Rattle.binding_kinds.specs.declared.scope.Entry.{Entry}
use Rattle.binding_kinds.specs.declared.scope.Binder.TheVariants as binders
use Rattle.binding_graph.proofs.Grown.{all_more, all_grown}
use Rattle.binding_graph.proofs.declare.declare_all.Goals as goal

pub loop-position-preserved : goal.loop-position-preserved
loop-position-preserved c = λ ss outer bounds named.
    let rs = c.args.bodies.now in
    let i = c.loop-position.position in
    let d = c.index-bodies-position.result in
    let is = c.index-bodies-position.is in
    let lt : i < length rs = omega arith in
    let e : Entry = record { name = c.in_ok-copied.field-0; kind = d.code.kind; binder = binders.Bound (record { item = c.args.item; position = i }) } in
    rw c.in_ok-push.ensures.items (c.loop-position.invariant ss outer bounds named
    ∙ all_more ss outer bounds rs _ c.args.item d c.loop-position.entries.items e lt named
    (rw (← is) c.in_ok-copied.ensures) (rw (← is) refl) refl)

pub returns : goal.returns
returns c = λ ss outer bounds named.
    sym (c.loop-position.invariant ss outer bounds named
    ∙ all_grown ss outer _ bounds c.args.bodies.now c.loop-position.position c.args.item
    named (omega arith))
