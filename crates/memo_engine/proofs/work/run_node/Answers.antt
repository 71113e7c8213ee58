use Rattle.std.proofs.Common.{◌≡◌, map, refl, ap, arith}
use Rattle.std.proofs.lemmas.List.{map_push}
use Rattle.memo_core.specs.Views.{shown_values}
use Rattle.memo_engine.proofs.PushLemmas.{item_next, pushed_next, pushed_all}
use Rattle.memo_engine.proofs.work.run_node.Goals as goal

pub loop-value-preserved : goal.loop-value-preserved
loop-value-preserved g c =
    let value = c.value-item.result in
    pushed_next (map (λ v. v.now) c.loop-value.all.items) (map (λ v. v.now) c.push.new.self.items) _
    _ _ value.value (rw (
      c.in_ok-push.ensures.items,
      map_push (λ v. v.now) c.loop-value.all.items c.see.result,
      c.see.ensures,
    ) refl)
    (ap shown_values (item_next c.args.values.now c.loop-value.value-index value (omega arith)
    c.value-item.is)) c.loop-value.invariant

pub returns : goal.returns
returns g c =
    let all : map (λ v. v.now) c.loop-value.all.items ≡ shown_values c.args.values.now = pushed_all shown_values (map (λ v. v.now) c.loop-value.all.items) c.args.values.now c.loop-value.value-index refl (omega arith) c.loop-value.invariant in
    rw (c.as_slice.ensures.value, all) at c.run.ensures
