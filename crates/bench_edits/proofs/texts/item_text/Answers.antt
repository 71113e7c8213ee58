use Rattle.std.proofs.Common.{◌≡◌, ◌∙◌, ◌<◌, ◌==◌, List, length, map, option_map, sym, ap, refl, arith}
use Rattle.std.specs.List.{position_or_len}
use Rattle.std.proofs.lemmas.List.{length-map}
use Rattle.std.proofs.lemmas.Option.{slice_get_read, slice_get-map}
use Rattle.text_values.specs.declared.model.Item.{Item}
use Rattle.bench_edits.proofs.Making.{text_at, no_text}
use Rattle.bench_edits.proofs.texts.item_text.Goals as goal
use Rattle.bench_edits.proofs.texts.item_text.Goals.{else-at-len-via-then-at-len+else-at-len-2, else-at-len-via-else-at-len}

pub returns-then-at-len-2 : goal.returns-then-at-len-2
returns-then-at-len-2 c =
    let all = c.args.all.now in let at = c.item_index-at.result in let item = c.index.result.now in
    let rows = all.rows.items in let texts = all.texts.items in
    let found : position_or_len (λ r. r.number == c.args.number) rows ≡ at = sym (rw c.deref-2.ensures.value at c.item_index-at.ensures.found) in
    let row : at < length rows = omega (arith, c.if-at-len.true, c.len.ensures, all.rows.ok.0) in
    let text : at < length texts = omega (arith, c.if-at-len-2.true, c.len-then-at-len.ensures, all.texts.ok.0) in
    sym (text_at rows (map (λ x. x.now) texts) c.args.number at item.now found row
    (slice_get-map (λ x. x.now) texts at
    ∙ ap (option_map (λ x. x.now)) (slice_get_read texts _ at item refl text c.index.ensures)))

pub returns-else-at-len : goal.returns-else-at-len
returns-else-at-len c =
    let all = c.args.all.now in let at = c.item_index-at.result in
    let rows = all.rows.items in
    let texts : List Item = map (λ x. x.now) all.texts.items in
    let found : position_or_len (λ r. r.number == c.args.number) rows ≡ at = sym (rw c.deref-2.ensures.value at c.item_index-at.ensures.found) in
    let many = length-map all.texts.items (λ x. x.now) in
    elim c.else-at-len.branch [
      | else-at-len-via-then-at-len+else-at-len-2 w ↦ sym (no_text rows texts c.args.number at found
          (omega (arith, w.if-at-len-2.false, w.len-then-at-len.ensures, all.texts.ok.0, many)))
      | else-at-len-via-else-at-len w ↦ sym (no_text rows texts c.args.number at found
          (omega (arith, w.if-at-len.false, c.len.ensures, all.rows.ok.0)))
    ]
