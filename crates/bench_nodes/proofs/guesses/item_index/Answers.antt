use Rattle.std.proofs.Common.{◌≤◌, length, get_or, ap, rules, arith}
use Rattle.std.proofs.lemmas.Option.{slice_get-get_or}
use Rattle.bench_nodes.specs.declared.table.ItemRow.{ItemRow}
use Rattle.bench_nodes.proofs.Guessing.{item_found, item_gone, item_within}
use Rattle.bench_nodes.proofs.guesses.item_index.Goals as goal

pub returns-then-spot-guesses-clause-within : goal.returns-then-spot-guesses-clause-within
returns-then-spot-guesses-clause-within c =
    let within = item_within c.args.rows.now c.args.number in omega (arith, within, c.first_item.ensures)

pub returns-then-at-rows-clause-found : goal.returns-then-at-rows-clause-found
returns-then-at-rows-clause-found c =
    let gs = c.args.guesses.now in
    let past : length c.args.rows.now ≤ get_or gs c.left_of-spot.result 0 = search rules in
    item_gone gs c.args.rows.now c.args.number c.requires (rw c.left_of-spot.ensures at past)

pub returns-then-rows-at-clause-found : goal.returns-then-rows-at-clause-found
returns-then-rows-at-clause-found c =
    let gs = c.args.guesses.now in
    let rows = c.args.rows.now in
    let at = get_or gs c.left_of-spot.result 0 in
    let d : ItemRow = record { number = 0; stamp = 0 } in
    item_found gs rows c.args.number at (get_or rows at d) c.requires
    (ap (λ i. get_or gs i 0) c.left_of-spot.ensures)
    (slice_get-get_or rows at d (search rules))
    (search rules)

pub returns-else-rows-at-clause-within : goal.returns-else-rows-at-clause-within
returns-else-rows-at-clause-within c =
    let within = item_within c.args.rows.now c.args.number in
    omega (arith, within, c.first_item-else-rows-at.ensures)
