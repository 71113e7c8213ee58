use Rattle.std.proofs.Common.{◌<◌, ◌≤◌, length, slice_get, refl, ap, sym, ◌∙◌, rules}
use Rattle.std.proofs.lemmas.Option.{slice_get_read}
use Rattle.bench_parts.specs.Contents.{role_part}
use Rattle.bench_nodes.proofs.Guessing.{stamp_at, stamp_past}
use Rattle.bench_parts.proofs.ItemStamps.{found_role, content_at, content_past}
use Rattle.bench_parts.proofs.held.held_item.Goals as goal

pub returns-then-index-len-clause-role : goal.returns-then-index-len-clause-role
returns-then-index-len-clause-role c =
    let items = c.args.parts.now.table.items.items in let roles = c.args.parts.now.roles.items in let index = c.item_index-index.result in
    let lt : index < length items = search rules in
    ap role_part c.role_at.ensures
    ∙ (ap (λ rs. found_role (slice_get rs index)) c.deref.ensures.value
    ∙ sym (content_at items roles c.args.number index
    (sym c.item_index-index.ensures.found) lt))

pub returns-then-index-len-clause-stamp : goal.returns-then-index-len-clause-stamp
returns-then-index-len-clause-stamp c =
    let items = c.args.parts.now.table.items.items in let index = c.item_index-index.result in
    let lt : index < length items = search rules in
    sym (stamp_at items c.args.number index c.index.result.now
    (sym c.item_index-index.ensures.found) (slice_get_read items _ index c.index.result.now
    refl lt c.index.ensures))

pub returns-else-index-len-clause-role : goal.returns-else-index-len-clause-role
returns-else-index-len-clause-role c =
    let items = c.args.parts.now.table.items.items in let index = c.item_index-index.result in
    let past : length items ≤ index = search rules in
    sym (content_past items c.args.parts.now.roles.items c.args.number index
    (sym c.item_index-index.ensures.found) past)

pub returns-else-index-len-clause-stamp : goal.returns-else-index-len-clause-stamp
returns-else-index-len-clause-stamp c =
    let items = c.args.parts.now.table.items.items in let index = c.item_index-index.result in
    let past : length items ≤ index = search rules in
    sym (stamp_past items c.args.number index (sym c.item_index-index.ensures.found) past)
