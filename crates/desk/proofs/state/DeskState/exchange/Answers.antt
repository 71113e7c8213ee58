use Rattle.std.proofs.Common.{List, fold, ◌∙◌}
use Rattle.memo_core.specs.Laws.{meaning}
use Rattle.memo_core.specs.Run.{Bench}
use Rattle.memo_engine.specs.declared.graph.TheConstants.{LAST}
use Rattle.cells.specs.Cells.{cells as cells_of}
use Rattle.desk_ledger.specs.Boards.{ArePosted}
use Rattle.desk.proofs.Exchanging.{answers_claim, open_by}
use Rattle.desk.proofs.state.DeskState.exchange.Goals as goal

pub returns-clause-turns : goal.returns-clause-turns
returns-clause-turns g c =
    let means = meaning g.X.Texts.net g.X.Texts.is_valid g.X.Texts.since g.X.Texts.makes g.X.Texts.keeps g.X.Texts.edited g.X.Texts.last in
    let of = cells_of g.X.CellTexts.verdict_of g.X.CellTexts.outcome_in g.X.CellTexts.from_scratch g.X.CellTexts.reaches in
    let P : Bench _ _ → List _ → Type 0 = λ bench ops. ArePosted g.X.Texts.net of bench (g.X.BoardTexts.cells (fold g.X.Operations.after g.X.Operations.none ops)) in
    let took = c.in_ok-finish.ensures in
    let next = c.claim-next.ensures in
    let mid = c.finish.new.self in
    let is_open = open_by _ c.args.self.now.closed took.closed in
    let still_open = took.appends.closed ∙ is_open in
    record {
      between = mid;
      takes =
          record {
            is_open = is_open;
            step = took.step;
            appends = took.appends;
            grows = took.grows;
            posts = took.posted;
          };
      claims =
          answers_claim means g.X.BoardTexts.is_settle P LAST mid c.claim-next.result
          c.claim-next.new.self still_open next.closed next.fault next.spent next.err next.debt
          next.given next.none next.appends next.grows next.whole next.shown next.still;
    }
