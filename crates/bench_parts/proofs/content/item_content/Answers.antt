use Rattle.std.proofs.Common.{refl, sym, ap, ◌∙◌, arith}
use Rattle.std.proofs.lemmas.Option.{slice_get_read}
use Rattle.bench_parts.specs.Contents.{role_part}
use Rattle.bench_parts.proofs.Rows.{item_at, no_item, no_role}
use Rattle.bench_parts.proofs.content.item_content.Goals as goal
use Rattle.bench_parts.proofs.content.item_content.Goals.{else-index-items-via-then-index-items+else-index-roles, else-index-items-via-else-index-items}

pub returns-in-Some : goal.returns-in-Some
returns-in-Some c =
    let rows = c.args.items.now in
    let beside = c.args.roles.now in
    let index = c.item_index-index.result in
    let own = slice_get_read beside _ index c.index-roles-index.result refl c.if-index-roles.true c.index-roles-index.is in
    ap role_part (sym c.in-Some.is)
    ∙ sym (item_at rows beside c.args.number index c.index-roles-index.result
    (sym c.item_index-index.ensures.found) c.if-index-items.true own)

pub returns-in-None : goal.returns-in-None
returns-in-None c =
    let rows = c.args.items.now in
    let beside = c.args.roles.now in
    let index = c.item_index-index.result in
    let own = slice_get_read beside _ index c.index-roles-index.result refl c.if-index-roles.true c.index-roles-index.is in
    ap role_part (sym c.in-None.is)
    ∙ sym (item_at rows beside c.args.number index c.index-roles-index.result
    (sym c.item_index-index.ensures.found) c.if-index-items.true own)

pub returns-else-index-items : goal.returns-else-index-items
returns-else-index-items c =
    let rows = c.args.items.now in
    let beside = c.args.roles.now in
    let index = c.item_index-index.result in
    let found = sym c.item_index-index.ensures.found in
    elim c.else-index-items.branch [
      | else-index-items-via-then-index-items+else-index-roles w ↦ sym
          (no_role rows beside c.args.number index found (omega (arith, w.if-index-roles.false)))
      | else-index-items-via-else-index-items w ↦ sym (no_item rows beside c.args.number index found
          (omega (arith, w.if-index-items.false)))
    ]
