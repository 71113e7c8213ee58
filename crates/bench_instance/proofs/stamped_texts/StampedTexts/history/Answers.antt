use Rattle.std.proofs.Common.{◌<◌, length, inl, inr, sym, ap, ◌∙◌, arith}
use Rattle.bench_items.specs.Items.{held_history}
use Rattle.bench_instance.proofs.Histories.{history_at, no_history}
use Rattle.bench_instance.proofs.stamped_texts.StampedTexts.history.Goals as goal
use Rattle.bench_instance.proofs.stamped_texts.StampedTexts.history.Goals.{then-index-len-via-then-index-len, then-index-len-via-else-index-len+then-index-len-2}

pub returns-then-index-len : goal.returns-then-index-len
returns-then-index-len c =
    let parts = c.args.self.now.parts in
    let none = no_history parts.table.items.items parts.roles.items c.args.item c.item_index-index.result c.item_index-index.ensures.found in
    elim c.then-index-len.branch [
      | then-index-len-via-then-index-len w ↦ none
          (inl (omega (arith, w.if-index-len.true, c.len.ensures)))
      | then-index-len-via-else-index-len+then-index-len-2 w ↦ none (inr
          (omega (arith, w.if-index-len-2.true, w.len-else-index-len.ensures)))
    ]

pub returns-in-Some : goal.returns-in-Some
returns-in-Some c =
    let parts = c.args.self.now.parts in
    let row : c.item_index-index.result < length parts.table.items.items = omega (arith, c.if-index-len.false, c.len.ensures) in
    let role : c.item_index-index.result < length parts.roles.items = omega (arith, c.if-index-len-2.false, c.len-else-index-len.ensures) in
    c.history.ensures ∙ sym (ap held_history c.in-Some.is) ∙ ap held_history c.index.ensures
    ∙ history_at parts.table.items.items parts.roles.items c.args.item c.item_index-index.result
    c.index.result.now c.item_index-index.ensures.found row role

pub returns-in-None : goal.returns-in-None
returns-in-None c =
    let parts = c.args.self.now.parts in
    let row : c.item_index-index.result < length parts.table.items.items = omega (arith, c.if-index-len.false, c.len.ensures) in
    let role : c.item_index-index.result < length parts.roles.items = omega (arith, c.if-index-len-2.false, c.len-else-index-len.ensures) in
    sym (ap held_history c.in-None.is) ∙ ap held_history c.index.ensures
    ∙ history_at parts.table.items.items parts.roles.items c.args.item c.item_index-index.result
    c.index.result.now c.item_index-index.ensures.found row role
