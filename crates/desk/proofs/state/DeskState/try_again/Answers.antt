use Rattle.std.proofs.Common.{inr, fold, refl}
use Rattle.cells.specs.Cells.{cells as cells_of}
use Rattle.desk_ledger.specs.Boards.{ArePosted}
use Rattle.desk.proofs.Returning.{whole_by}
use Rattle.desk.proofs.Returning.{publishes_shown, shown_as}
use Rattle.desk.proofs.state.DeskState.try_again.Goals as goal

pub returns-else-self-clause-shown : goal.returns-else-self-clause-shown
returns-else-self-clause-shown g c =
    let s = c.self.inside in
    let means = cells_of g.X.CellTexts.verdict_of g.X.CellTexts.outcome_in g.X.CellTexts.from_scratch g.X.CellTexts.reaches in
    shown_as
    (λ bench ops. ArePosted g.X.Texts.net means bench (g.X.BoardTexts.cells
    (fold g.X.Operations.after g.X.Operations.none ops))) s.bench s.ledger.all
    s.ledger.published s.seats s.closed s.owes c.args.self.now c.self.view_is c.self.invariant.3

pub returns-then-self-clause-shown : goal.returns-then-self-clause-shown
returns-then-self-clause-shown g c =
    let means = cells_of g.X.CellTexts.verdict_of g.X.CellTexts.outcome_in g.X.CellTexts.from_scratch g.X.CellTexts.reaches in
    publishes_shown
    (λ bench ops. ArePosted g.X.Texts.net means bench (g.X.BoardTexts.cells
    (fold g.X.Operations.after g.X.Operations.none ops))) c.args.self.now
    c.catch_up-posted.new.self c.catch_up-posted.result c.catch_up-posted.ensures.posted

pub returns-else-self-clause-whole : goal.returns-else-self-clause-whole
returns-else-self-clause-whole g c = inr refl

pub returns-then-self-clause-whole : goal.returns-then-self-clause-whole
returns-then-self-clause-whole g c =
    let means = cells_of g.X.CellTexts.verdict_of g.X.CellTexts.outcome_in g.X.CellTexts.from_scratch g.X.CellTexts.reaches in
    whole_by
    (λ bench ops. ArePosted g.X.Texts.net means bench (g.X.BoardTexts.cells
    (fold g.X.Operations.after g.X.Operations.none ops))) c.args.self.now
    c.catch_up-posted.new.self c.catch_up-posted.result c.catch_up-posted.ensures.posted
