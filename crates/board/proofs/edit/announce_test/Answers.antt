use Rattle.std.proofs.Common.{◌≡◌, List, length, map, subst, sym, ◌∙◌, rules, arith}
use Rattle.std.specs.List.{range_with_len}
use Rattle.board.specs.declared.operation.CellIndex.{CellIndex}
use Rattle.board.specs.Legal.{tests_and_models}
use Rattle.board.specs.Lines.{ListsAmong, test_cell}
use Rattle.board.proofs.Announcing.{announce_test}
use Rattle.board.proofs.edit.announce_test.Goals as goal

pub returns : goal.returns
returns c = λ test is same le.
    let h = tests_and_models c.args.texts.now in
    let cells : c.deref.result.now ≡ map (test_cell c.args.at) (range_with_len 0 (length h.models)) = search rules in
    announce_test h c.args.prepared.now.whole c.args.prepared.now.replacement c.args.at
    c.in_ok-name.name test c.in_ok-reached.reached.items is
    (omega (arith, le, c.args.texts.now.tests.ok.0)) (c.in_ok-name.ensures ∙ sym same)
    (subst
    (λ (line : List CellIndex). ListsAmong h c.args.prepared.now.whole
    c.args.prepared.now.replacement line c.in_ok-reached.reached.items) cells
    c.in_ok-reached.ensures)
