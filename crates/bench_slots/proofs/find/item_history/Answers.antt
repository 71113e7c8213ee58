use Rattle.std.proofs.Common.{◌∙◌, sym, ap, refl, arith}
use Rattle.std.proofs.lemmas.Option.{slice_get_read}
use Rattle.bench_items.specs.Items.{held_history}
use Rattle.bench_slots.proofs.Finding.{history_at, no_history}
use Rattle.bench_slots.proofs.find.item_history.Goals as goal
use Rattle.bench_slots.proofs.find.item_history.Goals.{else-at-histories-via-then-at-histories+else-at-histories-2, else-at-histories-via-else-at-histories}

pub returns-then-at-histories-2 : goal.returns-then-at-histories-2
returns-then-at-histories-2 c =
    let h = c.args.histories.now in let at = c.item_index-at.result in
    let role = c.index-histories-at.result in
    c.held_history.ensures ∙ ap held_history (sym c.index-histories-at.is)
    ∙ sym (history_at h.rows.now h.roles.now c.args.number at role
    (sym c.item_index-at.ensures.found) c.if-at-histories.true
    (slice_get_read h.roles.now _ at role refl c.if-at-histories-2.true c.index-histories-at.is))

pub returns-else-at-histories : goal.returns-else-at-histories
returns-else-at-histories c =
    let h = c.args.histories.now in let at = c.item_index-at.result in
    let found = sym c.item_index-at.ensures.found in
    elim c.else-at-histories.branch [
      | else-at-histories-via-then-at-histories+else-at-histories-2 w ↦ sym
          (no_history h.rows.now h.roles.now c.args.number at found
          (omega (arith, w.if-at-histories-2.false)))
      | else-at-histories-via-else-at-histories w ↦ sym
          (no_history h.rows.now h.roles.now c.args.number at found
          (omega (arith, w.if-at-histories.false)))
    ]
