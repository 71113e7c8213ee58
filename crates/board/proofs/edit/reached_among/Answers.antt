use Rattle.std.proofs.Common.{◌<◌, List, take, length, arith, subst, sym}
use Rattle.std.proofs.lemmas.List.{take_more}
use Rattle.board.specs.declared.operation.CellIndex.{CellIndex}
use Rattle.board.specs.Legal.{tests_and_models}
use Rattle.board.specs.Lines.{ListsAmong}
use Rattle.board.proofs.edit.reached_among.Goals as goal

pub loop-at-preserved : goal.loop-at-preserved
loop-at-preserved c =
    let lt : c.loop-at.at-index < length c.args.cells.now = omega arith in
    subst (λ (line : List CellIndex). ListsAmong (tests_and_models c.args.texts.now)
    c.args.prepared.now.whole c.args.prepared.now.replacement line
    c.push_reached.new.reached.items)
    (sym (take_more c.args.cells.now c.loop-at.at-index _ lt)) (c.in_ok-push_reached.ensures
    (take c.loop-at.at-index c.args.cells.now) c.loop-at.invariant)
