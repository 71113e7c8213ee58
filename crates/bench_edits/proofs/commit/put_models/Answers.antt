use Rattle.std.proofs.Common.{◌≡◌, ◌∙◌, List, length, map, ap, arith}
use Rattle.std.proofs.lemmas.List.{length-map, with_items_is}
use Rattle.bench_nodes.specs.declared.table.ItemRow.{ItemRow}
use Rattle.bench_parts.specs.Items.{raised_item}
use Rattle.bench_edits.proofs.Making.{raised_guessed}
use Rattle.bench_edits.proofs.commit.put_models.Goals as goal

pub invariant_of-parts-4-clause-guessed : goal.invariant_of-parts-4-clause-guessed
invariant_of-parts-4-clause-guessed c =
    let rows = c.args.made.items.rows in
    let raise = raised_item c.args.parts.now.last c.args.number in
    let new : c.raise_items.new.rows ≡ map raise rows.items = c.raise_items.ensures ∙ ap (map raise) c.deref_mut-2.ensures.value in
    let many = length-map rows.items raise in
    let same = ap (λ (l : List ItemRow). length l) new in
    rw (with_items_is rows c.raise_items.new.rows (omega (arith, same, many, rows.ok.0)), new)
    (raised_guessed c.args.parts.now.last c.args.number c.args.made.item_guesses.items rows.items
    c.args.made.guessed)
