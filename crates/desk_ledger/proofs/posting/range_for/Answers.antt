use Rattle.std.proofs.Common.{◌≡◌, Option, length, fold, ap, sym, ◌∙◌, subst}
use Rattle.memo_core.specs.declared.keys.Node.{Node}
use Rattle.desk_ledger.specs.Boards.{HoldsAbove, HoldsFor}
use Rattle.desk_ledger.proofs.AllPosted.{known_within}
use Rattle.desk_ledger.proofs.posting.range_for.Goals as goal

pub returns-in-Some-above-clause-holds : goal.returns-in-Some-above-clause-holds
returns-in-Some-above-clause-holds g c =
    let t = c.args.bench.now.texts in
    let cells = g.X.BoardTexts.cells in
    let r = c.cells_above.result in
    let b = fold g.X.Operations.after g.X.Operations.none c.args.press.now.all in
    let node = c.in-Some-above.node in
    let on_board = subst (λ d. HoldsAbove (g.X.Texts.net c.texts.result.now) (g.X.CellTexts.verdict_of c.texts.result.now) node (cells d) r.first r.end) c.in-Some.ensures c.cells_above.ensures.holds in
    let on_bench = subst (λ u. HoldsAbove (g.X.Texts.net u) (g.X.CellTexts.verdict_of u) node (cells b) r.first r.end) c.texts.ensures on_board in
    subst
    (λ (a : Option Node).
    HoldsFor (g.X.Texts.net t) (g.X.CellTexts.verdict_of t) a (cells b) r.first r.end)
    (sym c.in-Some-above.is) on_bench

pub returns-in-None-clause-holds : goal.returns-in-None-clause-holds
returns-in-None-clause-holds g c =
    let t = c.args.bench.now.texts in
    let cells = g.X.BoardTexts.cells in
    let ops = c.args.press.now.all in
    let b = fold g.X.Operations.after g.X.Operations.none ops in
    let end = c.cell_count.result in
    let same : end ≡ length (cells b) = c.cell_count.ensures ∙ ap (λ d. length (cells d)) c.in-Some.ensures in
    subst
    (λ (a : Option Node).
    HoldsFor (g.X.Texts.net t) (g.X.CellTexts.verdict_of t) a (cells b) 0 end)
    (sym c.in-None.is)
    (λ test model verdict is. known_within (cells b) end test model same
    (g.met.X.BoardTexts.cells_known
    t ops test model verdict c.requires.valid c.requires.after is))
