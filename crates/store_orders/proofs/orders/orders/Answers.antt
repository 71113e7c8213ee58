use Rattle.std.proofs.Common.{◌∙◌, length}
use Rattle.store_orders.proofs.Flat.{all_found, count_right, found_whole, found_rows}
use Rattle.store_orders.proofs.orders.orders.Goals as goal

pub invariant_of-result : goal.invariant_of-result
invariant_of-result c =
    let are = all_found c.args.events.now (length c.args.locations.now.items) c.width_of-width.result c.fill_all.new.locations.items c.deref.result.now c.deref-2.result.now c.in_ok-stores.stores.items c.clear.new.self.items c.add_orders.new.found.items
    c.requires c.in_ok-fill_all.ensures.stores c.deref.ensures.value c.deref-2.ensures.value
    c.in_ok-stores.ensures.items c.clear.ensures.items c.width_of-width.ensures
    c.in_ok-add_orders.ensures.found in
    found_whole c.args.events.now (length c.args.locations.now.items) c.width_of-width.result
    c.unwrap_or-count.result c.add_orders.new.found.items are
    (count_right c.args.events.now (length c.args.locations.now.items) c.width_of-width.result
    c.len.result c.unwrap_or-count.result c.add_orders.new.found.items c.checked_div.result
    are (c.len.ensures ∙ c.add_orders.new.found.ok.0) c.checked_div.ensures
    c.unwrap_or-count.ensures)

pub returns-clause-orders : goal.returns-clause-orders
returns-clause-orders c =
    let are = all_found c.args.events.now (length c.args.locations.now.items) c.width_of-width.result c.fill_all.new.locations.items c.deref.result.now c.deref-2.result.now c.in_ok-stores.stores.items c.clear.new.self.items c.add_orders.new.found.items
    c.requires c.in_ok-fill_all.ensures.stores c.deref.ensures.value c.deref-2.ensures.value
    c.in_ok-stores.ensures.items c.clear.ensures.items c.width_of-width.ensures
    c.in_ok-add_orders.ensures.found in
    found_rows c.args.events.now (length c.args.locations.now.items) c.width_of-width.result
    c.unwrap_or-count.result c.add_orders.new.found.items are
    (count_right c.args.events.now (length c.args.locations.now.items) c.width_of-width.result
    c.len.result c.unwrap_or-count.result c.add_orders.new.found.items c.checked_div.result
    are (c.len.ensures ∙ c.add_orders.new.found.ok.0) c.checked_div.ensures
    c.unwrap_or-count.ensures)
