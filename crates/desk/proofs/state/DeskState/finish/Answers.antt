use Rattle.std.proofs.Common.{◌≡◌, arith, true, List, fold, ap, sym, ◌∙◌}
use Rattle.memo_core.specs.Laws.{meaning}
use Rattle.memo_core.specs.Run.{Bench, Returned}
use Rattle.memo_core.proofs.Honest.{step_goes}
use Rattle.cells.specs.Cells.{cells as cells_of}
use Rattle.desk_ledger.specs.Boards.{ArePosted}
use Rattle.desk.specs.Held.{Held, held}
use Rattle.desk_ledger.proofs.Growing.{grown_from}
use Rattle.desk.proofs.Reaching.{reached_by}
use Rattle.desk.proofs.Refusing.{never, not_ok, other_closed}
use Rattle.desk.proofs.Returning.{appends_since, publishes_same}
use Rattle.desk.proofs.state.DeskState.finish.Goals as goal

pub returns-clause-posted : goal.returns-clause-posted
returns-clause-posted g c =
    let means = cells_of g.X.CellTexts.verdict_of g.X.CellTexts.outcome_in g.X.CellTexts.from_scratch g.X.CellTexts.reaches in
    let P : Bench _ _ → List _ → Type 0 = λ bench ops. ArePosted g.X.Texts.net means bench (g.X.BoardTexts.cells (fold g.X.Operations.after g.X.Operations.none ops)) in
    let s = c.self.inside in
    let before : Held _ _ _ = held c.take-finish.new.bench s.ledger.all s.ledger.published s.seats s.closed true in
    let published : before.published ≡ c.args.self.now.published = ap (λ (h : Held _ _ _). h.published) c.self.view_is in
    publishes_same P before c.args.self.now c.catch_up-posted.new.self c.catch_up-posted.result
    published c.catch_up-posted.ensures.posted

pub returns-clause-grows : goal.returns-clause-grows
returns-clause-grows g c =
    grown_from _ _ _ (ap (λ (h : Held _ _ _). h.published) c.self.view_is)
    c.catch_up-posted.ensures.grows

pub returns-clause-appends : goal.returns-clause-appends
returns-clause-appends g c =
    let s = c.self.inside in
    appends_since g.X.BoardTexts.is_settle s.bench c.take-finish.new.bench s.ledger.all
    s.ledger.published s.seats s.closed _ _ c.args.self.now c.catch_up-posted.new.self
    c.self.view_is c.catch_up-posted.ensures.appends

pub returns-clause-closed : goal.returns-clause-closed
returns-clause-closed g c =
    other_closed _ _ (not_ok _) (sym (ap (λ (h : Held _ _ _). h.closed) c.self.view_is)
    ∙ c.if-self.false)

pub take-finish-requires : goal.take-finish-requires
take-finish-requires g c = record { posted = λ owes. (c.self.invariant.3 owes).1 }

pub invariant_of-self : goal.invariant_of-self
invariant_of-self g c =
    let means = meaning g.X.Texts.net g.X.Texts.is_valid g.X.Texts.since g.X.Texts.makes g.X.Texts.keeps g.X.Texts.edited g.X.Texts.last in
    let inv = c.self.invariant in
    let old = c.self.inside.bench in
    let new = c.take-finish.new.bench in
    let step = c.take-finish.ensures.step in
    let more = (step_goes means old new (Returned c.args.done c.take-finish.result.0) step).more in (
      rw step.1 inv.0,
      rw step.1 inv.1,
      omega (arith, inv.2, more),
      λ owes. absurd (never owes),
      reached_by means old new (Returned c.args.done c.take-finish.result.0) inv.4 step,
    )
