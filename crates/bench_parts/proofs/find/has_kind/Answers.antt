use Rattle.std.proofs.Common.{None, get_or, sym, ◌∙◌, arith}
use Rattle.std.proofs.lemmas.Option.{slice_get-get_or}
use Rattle.bench_parts.proofs.Rows.{kind_at, no_kind, short_kinds}
use Rattle.bench_parts.proofs.find.has_kind.Goals as goal
use Rattle.bench_parts.proofs.find.has_kind.Goals.{else-index-items-via-then-index-items+else-index-kinds, else-index-items-via-else-index-items}

pub returns-then-index-kinds : goal.returns-then-index-kinds
returns-then-index-kinds c =
    let items = c.args.items.now in
    let kinds = c.args.kinds.now in
    let index = c.item_index-index.result in
    let own = slice_get-get_or kinds index None c.if-index-kinds.true in
    c.is_kind.ensures
    ∙ sym (kind_at items kinds c.args.kind c.args.number index (get_or kinds index None)
    (sym c.item_index-index.ensures.found) c.if-index-items.true own)

pub returns-else-index-items : goal.returns-else-index-items
returns-else-index-items c =
    let found = sym c.item_index-index.ensures.found in
    elim c.else-index-items.branch [
      | else-index-items-via-then-index-items+else-index-kinds w ↦ sym (short_kinds c.args.items.now
          c.args.kinds.now c.args.kind c.args.number c.item_index-index.result found
          (omega (arith, w.if-index-kinds.false)))
      | else-index-items-via-else-index-items w ↦ sym (no_kind c.args.items.now c.args.kinds.now
          c.args.kind c.args.number c.item_index-index.result found
          (omega (arith, w.if-index-items.false)))
    ]
