use Rattle.std.proofs.Common.{◌∙◌}
use Rattle.store_orders.proofs.Rows.{location_rows}
use Rattle.store_orders.proofs.orders.rows_at.Goals as goal

pub invariant_of-result : goal.invariant_of-result
invariant_of-result c =
    (location_rows c.args.events.now c.args.location c.find_stores.new.stores.items c.deref.result.now
    c.in_ok-prefix.prefix.items c.push.new.self.items c.in_ok-stores.stores.items
    c.add_rows.new.found.items c.len.result c.len-2.result c.len-3.result
    c.saturating_add-width.result c.in_ok-find_stores.ensures c.deref.ensures.value
    (c.len.ensures ∙ c.find_stores.new.stores.ok.0) (c.len-2.ensures ∙ c.find_stores.new.stores.ok.0)
    c.in_ok-prefix.ensures.items c.in_ok-push.ensures.items c.in_ok-stores.ensures.items
    c.in_ok-add_rows.ensures.found (c.len-3.ensures ∙ c.add_rows.new.found.ok.0)
    c.saturating_add-width.ensures).0

pub returns : goal.returns
returns c =
    (location_rows c.args.events.now c.args.location c.find_stores.new.stores.items c.deref.result.now
    c.in_ok-prefix.prefix.items c.push.new.self.items c.in_ok-stores.stores.items
    c.add_rows.new.found.items c.len.result c.len-2.result c.len-3.result
    c.saturating_add-width.result c.in_ok-find_stores.ensures c.deref.ensures.value
    (c.len.ensures ∙ c.find_stores.new.stores.ok.0) (c.len-2.ensures ∙ c.find_stores.new.stores.ok.0)
    c.in_ok-prefix.ensures.items c.in_ok-push.ensures.items c.in_ok-stores.ensures.items
    c.in_ok-add_rows.ensures.found (c.len-3.ensures ∙ c.add_rows.new.found.ok.0)
    c.saturating_add-width.ensures).1
