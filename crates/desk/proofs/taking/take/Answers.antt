use Rattle.std.proofs.Common.{fold, sym, subst}
use Rattle.memo_core.specs.declared.keys.Node.{Node}
use Rattle.memo_core.specs.Laws.{meaning}
use Rattle.cells.specs.Cells.{cells as cells_of}
use Rattle.desk_ledger.specs.Boards.{ArePostedBut}
use Rattle.desk.proofs.Returning.{but_returned}
use Rattle.desk.proofs.taking.take.Goals as goal

pub returns-clause-rest : goal.returns-clause-rest
returns-clause-rest g c =
    let means = meaning g.X.Texts.net g.X.Texts.is_valid g.X.Texts.since g.X.Texts.makes g.X.Texts.keeps g.X.Texts.edited g.X.Texts.last in
    let of = cells_of g.X.CellTexts.verdict_of g.X.CellTexts.outcome_in g.X.CellTexts.from_scratch g.X.CellTexts.reaches in
    let new = c.finish-finish.new.self in
    let cells = g.X.BoardTexts.cells (fold g.X.Operations.after g.X.Operations.none c.args.ledger.now.all) in
    subst (λ (n : Node). ArePostedBut g.X.Texts.net of new n cells) (sym c.node-node.ensures)
    (but_returned means of c.args.bench.now new cells c.args.done c.finish-finish.result
    c.finish-finish.ensures (c.requires.posted c.if-owed.false))
