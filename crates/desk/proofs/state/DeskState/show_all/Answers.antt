use Rattle.std.proofs.Common.{fold, ap}
use Rattle.std.specs.Prelude.{not}
use Rattle.cells.specs.Cells.{cells as cells_of}
use Rattle.desk_ledger.specs.Boards.{ArePosted}
use Rattle.desk.specs.Held.{Held}
use Rattle.desk.proofs.Returning.{shown_as}
use Rattle.desk.proofs.state.DeskState.show_all.Goals as goal

pub returns-clause-bench : goal.returns-clause-bench
returns-clause-bench g c = c.try_again.ensures.bench

pub returns-clause-appends : goal.returns-clause-appends
returns-clause-appends g c = c.try_again.ensures.appends

pub returns-clause-grows : goal.returns-clause-grows
returns-clause-grows g c = c.try_again.ensures.grows

pub returns-clause-owes : goal.returns-clause-owes
returns-clause-owes g c = ap (λ (h : Held _ _ _). not h.owes) c.self.view_is

pub returns-clause-shown : goal.returns-clause-shown
returns-clause-shown g c =
    let s = c.self.inside in
    let means = cells_of g.X.CellTexts.verdict_of g.X.CellTexts.outcome_in g.X.CellTexts.from_scratch g.X.CellTexts.reaches in
    shown_as
    (λ bench ops. ArePosted g.X.Texts.net means bench (g.X.BoardTexts.cells
    (fold g.X.Operations.after g.X.Operations.none ops))) s.bench s.ledger.all
    s.ledger.published s.seats s.closed s.owes c.try_again.new.self c.self.view_is
    c.self.invariant.3

pub returns-clause-whole : goal.returns-clause-whole
returns-clause-whole g c = c.try_again.ensures.whole
