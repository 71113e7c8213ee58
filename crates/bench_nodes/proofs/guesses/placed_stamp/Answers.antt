use Rattle.std.proofs.Common.{sym, rules}
use Rattle.std.proofs.lemmas.Option.{slice_get-get_or}
use Rattle.bench_nodes.specs.declared.table.ItemRow.{ItemRow}
use Rattle.bench_nodes.proofs.Guessing.{stamp_at, stamp_past}
use Rattle.bench_nodes.proofs.guesses.placed_stamp.Goals as goal

pub returns-then-at-rows : goal.returns-then-at-rows
returns-then-at-rows c =
    let rows = c.args.rows.now in let at = c.item_index-at.result in
    let d : ItemRow = record { number = 0; stamp = 0 } in
    sym (stamp_at rows c.args.number at _ (sym c.item_index-at.ensures.found)
    (slice_get-get_or rows at d (search rules)))

pub returns-else-at-rows : goal.returns-else-at-rows
returns-else-at-rows c =
    sym (stamp_past c.args.rows.now c.args.number c.item_index-at.result
    (sym c.item_index-at.ensures.found) (search rules))
