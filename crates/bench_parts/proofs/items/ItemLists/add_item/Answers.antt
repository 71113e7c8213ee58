use Rattle.std.proofs.Common.{◌≡◌, ◌∷◌, ◌++◌, [], get_or, sym, ap, ◌∙◌}
use Rattle.bench_nodes.specs.declared.table.ItemRow.{ItemRow}
use Rattle.bench_nodes.specs.Nodes.{item_stamp}
use Rattle.bench_parts.specs.Contents.{item_content}
use Rattle.bench_parts.specs.Items.{part_after, fact_at, read_role, resolved_items}
use Rattle.bench_parts.proofs.ItemStamps.{items_more, stamp_along}
use Rattle.bench_parts.proofs.items.ItemLists.add_item.Goals as goal

pub returns : goal.returns
returns c = λ texts facts was before.
    let m = c.args.model.now in let p = c.args.before.now in let lists = c.args.self.now in let held = c.held_item-held.ensures in
    let number = c.number_at-number.result in let is : number ≡ get_or m.numbers.now c.args.index 0 = c.number_at-number.ensures in
    let role = c.in_ok-role.role in let stamp = c.stamp_of-stamp.result in
    let row : ItemRow = record { number = number; stamp = stamp } in
    let a : c.push.new.self.items ≡ lists.rows.items ++ row ∷ [] = c.in_ok-push.ensures.items in
    let b : c.push-2.new.self.items ≡ lists.roles.items ++ role ∷ [] = c.in_ok-push-2.ensures.items in
    let d : c.push-3.new.self.items ≡ lists.kinds.items ++ c.kind.result ∷ [] = c.in_ok-push-3.ensures.items in
    let read = read_role (resolved_items m) c.args.index in
    rw (a, b, d) (items_more c.args.fresh p.table.items.items p.roles.items texts facts
    lists.rows.items lists.roles.items lists.kinds.items
    (fact_at m.numbers.now m.items.now (resolved_items m) c.args.index) row role c.kind.result
    before
    (record {
      number_is = is;
      role_is =
          c.in_ok-role.ensures
          ∙ ap (part_after read) (held.role
          ∙ ap (item_content p.table.items.items p.roles.items) is);
      stamp =
          stamp_along c.args.fresh _ _ _ _ _ _ stamp (sym was)
          (held.stamp ∙ ap (item_stamp p.table.items.items) is) c.text-now.ensures
          c.stamp_of-stamp.ensures;
    })
    c.kind.ensures)
