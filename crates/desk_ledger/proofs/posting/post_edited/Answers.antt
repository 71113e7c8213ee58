use Rattle.std.proofs.Common.{length, fold}
use Rattle.cells.specs.Cells.{cells as cells_of}
use Rattle.desk_ledger.proofs.Appending.{posts_none}
use Rattle.desk_ledger.proofs.Editing.{posted_edited}
use Rattle.desk_ledger.proofs.posting.post_edited.Goals as goal

pub returns-clause-posted : goal.returns-clause-posted
returns-clause-posted g c ok =
    let means = cells_of g.X.CellTexts.verdict_of g.X.CellTexts.outcome_in g.X.CellTexts.from_scratch g.X.CellTexts.reaches in
    posted_edited g.X.Texts.net means c.args.bench.now
    (g.X.BoardTexts.cells (fold g.X.Operations.after g.X.Operations.none
    c.catch_up.new.self.all))
    (g.X.BoardTexts.cells (fold g.X.Operations.after g.X.Operations.none
    c.post_range.new.press.all))
    c.in-Some.range.first c.in-Some.range.end c.in-Some.ensures.posted c.post_range.ensures.stays
    (c.post_range.ensures.posted ok)

pub edited_range-requires-clause-edited : goal.edited_range-requires-clause-edited
edited_range-requires-clause-edited g c = rw c.catch_up.ensures c.requires.edited

pub returns-in_default-clause-posts : goal.returns-in_default-clause-posts
returns-in_default-clause-posts g c =
    let x = g.X.BoardTexts in
    posts_none x.is_settle x.are_after x.last_number
    (λ l. length (x.cells (fold g.X.Operations.after g.X.Operations.none l)))
    c.args.bench.now.texts c.args.press.now c.catch_up.new.self c.catch_up.ensures
    c.requires.after
