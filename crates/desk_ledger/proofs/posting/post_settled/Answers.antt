use Rattle.std.proofs.Common.{fold, ap}
use Rattle.cells.specs.Cells.{cells as cells_of}
use Rattle.desk_history.specs.Histories.{Pressed}
use Rattle.desk_ledger.proofs.AllPosted.{for_posted, keeps_self}
use Rattle.desk_ledger.proofs.posting.post_settled.Goals as goal

pub returns-clause-posted : goal.returns-clause-posted
returns-clause-posted g c ok =
    let means = cells_of g.X.CellTexts.verdict_of g.X.CellTexts.outcome_in g.X.CellTexts.from_scratch g.X.CellTexts.reaches in
    for_posted g.X.Texts.net means c.args.bench.now c.args.above
    (g.X.BoardTexts.cells (fold g.X.Operations.after g.X.Operations.none
    c.catch_up.new.self.all))
    (g.X.BoardTexts.cells (fold g.X.Operations.after g.X.Operations.none
    c.post_range.new.press.all))
    c.in-Some.range.first c.in-Some.range.end c.in-Some.ensures.holds c.post_range.ensures.stays
    (c.post_range.ensures.posted ok)

pub returns-in_default-clause-stays : goal.returns-in_default-clause-stays
returns-in_default-clause-stays g c =
    keeps_self _ _ (ap
    (λ (p : Pressed _).
    g.X.BoardTexts.cells (fold g.X.Operations.after g.X.Operations.none p.all))
    c.catch_up.ensures)
