use Rattle.std.proofs.Common.{take}
use Rattle.board.specs.Legal.{tests_and_models}
use Rattle.board.specs.Lines.{ListsAmong}
use Rattle.board.proofs.edit.reached_among.Given as goal

abbrev pub invariant-loop-at : goal.invariant-loop-at
invariant-loop-at l =
    ListsAmong (tests_and_models l.texts) l.prepared.whole l.prepared.replacement (take l.at-index l.cells)
    l.reached.items
