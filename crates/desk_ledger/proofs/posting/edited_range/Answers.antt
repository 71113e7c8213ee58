use Rattle.std.proofs.Common.{List, fold, sym, subst}
use Rattle.memo_core.specs.Laws.{meaning}
use Rattle.cells.specs.Cells.{cells as cells_of}
use Rattle.desk_ledger.specs.Boards.{LeavesCells}
use Rattle.desk_ledger.specs.Edited.{IsEditOf}
use Rattle.desk_ledger.proofs.Editing.{posted_outside}
use Rattle.desk_ledger.proofs.posting.edited_range.Goals as goal

pub returns-clause-posted : goal.returns-clause-posted
returns-clause-posted g c =
    let means = meaning g.X.Texts.net g.X.Texts.is_valid g.X.Texts.since g.X.Texts.makes g.X.Texts.keeps g.X.Texts.edited g.X.Texts.last in
    let of = cells_of g.X.CellTexts.verdict_of g.X.CellTexts.outcome_in g.X.CellTexts.from_scratch g.X.CellTexts.reaches in
    let x = g.X.BoardTexts in
    let shown = λ (ops : List _). x.cells (fold g.X.Operations.after g.X.Operations.none ops) in
    let all = c.args.press.now.all in
    let bench = c.args.bench.now in
    let t = bench.texts in
    let r = c.cells_edited.result in
    let e = c.requires.edited in
    let made = subst (λ u. IsEditOf g.X.Texts.is_valid x.are_after g.X.Texts.prepares x.announces g.X.Texts.commits e.before.texts e.edit e.number e.ops all u) (sym c.texts.ensures) e.made in
    let on_board = c.cells_edited.ensures.left e.before.texts e.edit e.number e.ops all made c.in-Some.ensures in
    let on_texts = subst (λ u. LeavesCells (g.X.Texts.net u) (g.X.CellTexts.verdict_of e.before.texts) (g.X.CellTexts.verdict_of u) (g.X.Texts.touched u) (shown e.ops) (x.cells c.in-Some.board.now) r.first r.end) c.texts.ensures on_board in
    let leaves = subst (λ d. LeavesCells (g.X.Texts.net t) (g.X.CellTexts.verdict_of e.before.texts) (g.X.CellTexts.verdict_of t) (g.X.Texts.touched t) (shown e.ops) (x.cells d) r.first r.end) c.in-Some.ensures on_texts in
    posted_outside means of e.before bench e.edit e.step (g.X.Texts.touched t)
    (g.met.X.Texts.touches_only e.before.texts e.made.ready t e.edit e.made.prepared e.number
    e.made.valid e.made.prepares_it e.made.commits_it)
    (g.met.X.Texts.used_closed t c.requires.valid)
    (g.met.X.Texts.used_kept t c.requires.valid)
    (λ test model n is. g.met.X.CellTexts.verdict_used t test model n c.requires.valid is)
    (shown e.ops) (shown all) r.first r.end leaves e.posted
