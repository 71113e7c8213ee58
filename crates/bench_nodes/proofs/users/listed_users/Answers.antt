use Rattle.std.proofs.Common.{◌≡◌, ◌∙◌, Bool, List, ap, sym, length, map, option_map, slice_get, refl}
use Rattle.std.proofs.lemmas.Option.{slice_get_read, slice_get-map}
use Rattle.bench_nodes.specs.declared.places.SlotName.{SlotName}
use Rattle.bench_nodes.specs.Places.{node_named, slot_names, user_lists, lists_if, lists_in}
use Rattle.bench_nodes.proofs.Lookups.{users_placed}
use Rattle.bench_nodes.proofs.users.listed_users.Goals as goal

pub returns : goal.returns
returns c =
    let table = c.args.table.now in
    let slots = table.slots.items in
    let at = c.in_ok-at.at in
    let users = c.in_ok-users.users.now in
    let got = slice_get_read c.deref-3.result.now (length c.deref-3.result.now) at users refl c.in_ok-users.ensures.lookup.3.0 c.in_ok-users.ensures.lookup.1 in
    let law : map slot_names table.places.users.items ≡ user_lists slots slots = sym (ap (λ (b : Bool). lists_in b table.places.users.items) c.if-not-table.false) ∙ table.listed ∙ ap (λ (b : Bool). lists_if b slots) c.if-not-table.false in
    let names = ap (λ (l : List (List SlotName)). slice_get l at) (sym law) ∙ slice_get-map slot_names table.places.users.items at ∙ ap (option_map slot_names) (rw c.deref-3.ensures.value at got) in
    users_placed slots c.args.node.kind c.args.node.of c.args.node.test at users.items
    (rw c.deref-2.ensures.value at c.in_ok-at.ensures) names
    ∙ ap (λ (l : List SlotName). map (node_named c.args.node.test) l) (sym c.as_slice.ensures.value)
