use Rattle.std.proofs.Common.{◌≡◌, List, ℕ, Some, length, map, subst, sym, ap, ◌∙◌, rules, arith}
use Rattle.std.specs.List.{range_with_len}
use Rattle.std.specs.Arc.{arc_value}
use Rattle.bench_texts.specs.Replacements.{printed_by}
use Rattle.bench_texts.specs.Printed.{printed_items}
use Rattle.bench_texts.specs.Held.{plain_model}
use Rattle.board.specs.declared.operation.CellIndex.{CellIndex}
use Rattle.board.specs.Legal.{tests_and_models}
use Rattle.board.specs.Lines.{ListsAmong, model_cell}
use Rattle.board.proofs.Announcing.{announce_model}
use Rattle.board.proofs.edit.announce_model.Goals as goal

pub returns : goal.returns
returns c = λ model next is same le read.
    let h = tests_and_models c.args.texts.now in
    let cells : c.deref.result.now ≡ map (model_cell c.args.at) (range_with_len 0 (length h.tests)) = search rules in
    let put : printed_by c.args.prepared.now.replacement ≡ Some (printed_items (plain_model model).items) = ap printed_by is in
    let printed : printed_by c.args.prepared.now.replacement ≡ Some (arc_value c.in_ok-items.items).items = put ∙ ap (λ (xs : List ℕ). Some xs) (sym (c.in_ok-items.ensures (printed_items (plain_model model).items) put)) in
    announce_model h c.args.prepared.now.whole c.args.prepared.now.replacement c.args.at next
    c.in_ok-name.name c.in_ok-items.items model c.in_ok-reached.reached.items is
    (omega (arith, le, c.args.texts.now.models.ok.0)) (c.in_ok-name.ensures ∙ sym same)
    (sym printed) read
    (subst
    (λ (line : List CellIndex). ListsAmong h c.args.prepared.now.whole
    c.args.prepared.now.replacement line c.in_ok-reached.reached.items) cells
    c.in_ok-reached.ensures)
