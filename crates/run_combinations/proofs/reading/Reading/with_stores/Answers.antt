use Rattle.std.proofs.Common.{◌≡◌, ℕ, List, Some, slice_get, ap, ◌∙◌, arith, length, refl, sym}
use Rattle.std.proofs.lemmas.Option.{slice_get_read}
use Rattle.bit_rows.specs.Relation.{IsMember}
use Rattle.run_combinations.specs.Rounds.{IsEventSubset, store_event}
use Rattle.run_combinations.specs.declared.reading.Store.{Store}
use Rattle.run_combinations.proofs.Members.{one_step_more}
use Rattle.run_combinations.proofs.reading.Reading.with_stores.Goals as goal

pub loop-store-preserved : goal.loop-store-preserved
loop-store-preserved c =
    let at : slice_get c.args.self.now.stores.items c.loop-store.store-index ≡ Some c.store-item.result =
    ap (λ (l : List Store). slice_get l c.loop-store.store-index)
    (sym c.deref-store-items.ensures.value)
    ∙ slice_get_read c.deref-store-items.result.now (length c.deref-store-items.result.now)
    c.loop-store.store-index c.store-item.result refl (omega arith) c.store-item.is in
    one_step_more store_event (λ (k : ℕ) (s : Store). IsEventSubset s.needs c.args.derived.now)
    (IsMember c.args.derived.now) c.args.derived.now.count c.loop-store.store-index
    c.args.self.now.stores.items c.store-item.result c.is_within.result c.loop-store.next _ at
    c.is_within.ensures c.loop-store.invariant c.add_if.ensures
