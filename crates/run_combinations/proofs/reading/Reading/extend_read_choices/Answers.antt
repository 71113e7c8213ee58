use Rattle.std.proofs.Common.{◌≡◌, List, Some, slice_get, length, ap, arith, refl, sym, ◌∙◌}
use Rattle.std.proofs.lemmas.Option.{slice_get_read}
use Rattle.store_orders.specs.Lists.{lists_of}
use Rattle.run_combinations.specs.declared.reading.Load.{Load}
use Rattle.run_combinations.proofs.Finding.{one_load_more, over_at, all_loads, told_next, told_over}
use Rattle.run_combinations.proofs.reading.Reading.extend_read_choices.Goals as goal

pub loop-index-preserved : goal.loop-index-preserved
loop-index-preserved c =
    let at : slice_get c.args.self.now.loads.items c.loop-index.index ≡ Some c.load-item.result =
    ap (λ (l : List Load). slice_get l c.loop-index.index) (sym c.deref-load-items.ensures.value)
    ∙ slice_get_read c.deref-load-items.result.now (length c.deref-load-items.result.now)
    c.loop-index.index c.load-item.result refl (omega arith) c.load-item.is in
    λ begin. rw c.swap.ensures.x_after (one_load_more c.args.self.now c.loop-index.index
    c.load-item.result (lists_of c.loop-index.read_choices.items)
    (lists_of c.extend_all.new.longer.items) at (c.loop-index.invariant begin)
    (told_next c.args.self.now c.load-item.result c.loop-index.index c.args.limit
    c.loop-index.read_choices.items (lists_of c.extend_all.new.longer.items)
    c.in_ok-extend_all.field-0 c.if-not-branch.false c.in_ok-extend_all.ensures))

pub returns-then-not-branch : goal.returns-then-not-branch
returns-then-not-branch c =
    let at : slice_get c.args.self.now.loads.items c.loop-index.index ≡ Some c.load-item.result =
    ap (λ (l : List Load). slice_get l c.loop-index.index) (sym c.deref-load-items.ensures.value)
    ∙ slice_get_read c.deref-load-items.result.now (length c.deref-load-items.result.now)
    c.loop-index.index c.load-item.result refl (omega arith) c.load-item.is in
    λ begin. over_at c.args.self.now c.loop-index.index c.args.limit c.load-item.result
    (lists_of c.loop-index.read_choices.items) at (c.loop-index.invariant begin)
    (told_over c.args.self.now c.load-item.result c.loop-index.index c.args.limit
    c.loop-index.read_choices.items (lists_of c.extend_all.new.longer.items)
    c.in_ok-extend_all.field-0 c.if-not-branch.true c.in_ok-extend_all.ensures)

pub returns : goal.returns
returns c = λ begin.
    all_loads c.args.self.now c.loop-index.index (lists_of c.loop-index.read_choices.items)
    (let e = ap (λ (l : List Load). length l) c.deref-load-items.ensures.value in
    omega (arith, e))
    (c.loop-index.invariant begin)
