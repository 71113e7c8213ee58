use Rattle.std.proofs.Common.{◌≡◌, ◌<◌, ◌≤◌, length, ap, sym, subst, ◌∙◌, option_map, IfOk, rules}
use Rattle.std.specs.Arc.{arc_value}
use Rattle.bench_items.specs.Items.{role_at, held_history}
use Rattle.bench_items.specs.Naming.{with_role_names}
use Rattle.bench_parts.specs.Contents.{role_part}
use Rattle.bench_parts.specs.Held.{held_part}
use Rattle.bench_parts.specs.Items.{part_after}
use Rattle.bench_parts.proofs.Histories.{new_held}
use Rattle.bench_parts.proofs.ItemStamps.{role_within, role_past}
use Rattle.bench_parts.proofs.items.shared_item.Goals as goal

pub returns-in_ok-new : goal.returns-in_ok-new
returns-in_ok-new c =
    let items = (arc_value c.args.resolved.now).items.items in
    let before = option_map (λ r. r.now) c.args.held.now.role in
    let lt : c.args.index < length items = search rules in
    let same = c.in_ok-try_clone.ensures in
    new_held c.in_ok-new.field-0 before (role_at items c.args.index) _
    (c.in_ok-new.ensures.role ∙ ap (λ r. role_at r.items.items c.args.index) same)
    (c.in_ok-new.ensures.history
    ∙ ap (λ r. with_role_names (held_history before) (role_at r.items.items c.args.index))
    same)
    (role_within items c.args.index lt)

pub returns-else-index-len : goal.returns-else-index-len
returns-else-index-len c =
    let items = (arc_value c.args.resolved.now).items.items in
    let past : length items ≤ c.args.index = search rules in
    subst (λ o. IfOk c.again.result (λ r. role_part r ≡ part_after o (held_part c.args.held.now)))
    (sym (role_past items c.args.index past)) c.again.ensures
