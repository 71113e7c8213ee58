use Rattle.std.proofs.Common.{◌≡◌, List, Some, slice_get, ap, ◌∙◌, arith, length, refl, sym}
use Rattle.std.proofs.lemmas.Option.{slice_get_read}
use Rattle.bit_rows.specs.Relation.{IsMember}
use Rattle.run_combinations.specs.Rounds.{CanArise, load_event}
use Rattle.run_combinations.specs.declared.reading.Load.{Load}
use Rattle.run_combinations.proofs.Members.{one_step_more}
use Rattle.run_combinations.proofs.reading.Reading.with_loads.Goals as goal

pub loop-index-preserved : goal.loop-index-preserved
loop-index-preserved c =
    let at : slice_get c.args.self.now.loads.items c.loop-index.index ≡ Some c.load-item.result =
    ap (λ (l : List Load). slice_get l c.loop-index.index) (sym c.deref-load-items.ensures.value)
    ∙ slice_get_read c.deref-load-items.result.now (length c.deref-load-items.result.now)
    c.loop-index.index c.load-item.result refl (omega arith) c.load-item.is in
    one_step_more load_event (CanArise c.args.reads_from.now c.args.without c.args.derived.now)
    (IsMember c.args.derived.now) c.args.derived.now.count c.loop-index.index
    c.args.self.now.loads.items c.load-item.result c.can_arise-is_wanted.result
    c.loop-index.next _ at c.can_arise-is_wanted.ensures c.loop-index.invariant c.add_if.ensures
