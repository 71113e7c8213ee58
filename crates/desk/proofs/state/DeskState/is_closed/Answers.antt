use Rattle.std.proofs.Common.{fold}
use Rattle.cells.specs.Cells.{cells as cells_of}
use Rattle.desk_ledger.specs.Boards.{ArePosted}
use Rattle.desk.proofs.Returning.{shown_as}
use Rattle.desk.proofs.state.DeskState.is_closed.Goals as goal

pub returns-clause-shown : goal.returns-clause-shown
returns-clause-shown g c =
    let s = c.self.inside in
    let means = cells_of g.X.CellTexts.verdict_of g.X.CellTexts.outcome_in g.X.CellTexts.from_scratch g.X.CellTexts.reaches in
    shown_as
    (λ bench ops. ArePosted g.X.Texts.net means bench (g.X.BoardTexts.cells
    (fold g.X.Operations.after g.X.Operations.none ops))) s.bench s.ledger.all
    s.ledger.published s.seats s.closed s.owes c.args.self.now c.self.view_is c.self.invariant.3
