use Rattle.std.proofs.Common.{◌≡◌, length, ◌<◌, ◌≤◌, arith, ◌∙◌, take, length-append, refl}
use Rattle.std.proofs.lemmas.List.{take-append-le}
use Rattle.binding_kinds.specs.declared.scope.Entry.{Entry}
use Rattle.binding_kinds.specs.declared.scope.Binder.TheVariants as binders
use Rattle.fault_texts.proofs.Grown.{all_more}
use Rattle.fault_texts.proofs.declare.declare_all.Goals as goal

pub loop-position-preserved : goal.loop-position-preserved
loop-position-preserved c =
    let lt : c.loop-position.position < length c.args.group.now = omega arith in
    let e : Entry = record { name = c.in_ok-copied.field-0; kind = c.judge-body.result.kind; binder = binders.Bound (record { item = c.args.item; position = c.loop-position.position }) } in
    let before : c.len-before.result ≤ length c.loop-position.entries.items = c.loop-position.invariant.before in
    let outer : take c.len-before.result c.deref.result.now ≡ c.args.entries.now.items = rw c.deref.ensures.value c.loop-position.invariant.outer in
    let is = c.index-group-position.is in
    record {
      before = rw c.in_ok-push.ensures.items (rw length-append (omega arith));
      outer =
          rw c.in_ok-push.ensures.items (rw
          (take-append-le c.len-before.result c.loop-position.entries.items _ before)
          c.loop-position.invariant.outer);
      names = λ ss kept.
          let k = rw outer at (c.judge-body.ensures.kind_in ss kept) in
          rw c.in_ok-push.ensures.items (c.loop-position.invariant.names ss kept
          ∙ all_more ss _ c.args.group.now _ c.args.item c.index-group-position.result
          c.loop-position.entries.items e lt (rw (← is) c.in_ok-copied.ensures)
          (rw (← is) k) refl);
    }
