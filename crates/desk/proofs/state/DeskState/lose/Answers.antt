use Rattle.std.proofs.Common.{arith, ap, sym, ◌∙◌}
use Rattle.memo_core.specs.Laws.{meaning}
use Rattle.memo_core.specs.Run.{Lose}
use Rattle.memo_core.proofs.Honest.{step_goes}
use Rattle.desk.specs.Held.{Held}
use Rattle.desk_ledger.proofs.Growing.{grown_from, whole_from}
use Rattle.desk.proofs.Reaching.{reached_by}
use Rattle.desk.proofs.Refusing.{never, not_ok, other_closed}
use Rattle.desk.proofs.Returning.{appends_since}
use Rattle.desk.proofs.state.DeskState.lose.Goals as goal

pub returns-clause-appends : goal.returns-clause-appends
returns-clause-appends g c =
    let s = c.self.inside in
    appends_since g.X.BoardTexts.is_settle s.bench c.lose-lost.new.self s.ledger.all
    s.ledger.published s.seats s.closed _ _ c.args.self.now c.try_again.new.self c.self.view_is
    c.try_again.ensures.appends

pub returns-clause-grows : goal.returns-clause-grows
returns-clause-grows g c =
    grown_from _ _ _ (ap (λ (h : Held _ _ _). h.published) c.self.view_is) c.try_again.ensures.grows

pub returns-clause-closed : goal.returns-clause-closed
returns-clause-closed g c =
    other_closed _ _ (not_ok _) (sym (ap (λ (h : Held _ _ _). h.closed) c.self.view_is)
    ∙ c.if-self.false)

pub returns-clause-whole : goal.returns-clause-whole
returns-clause-whole g c =
    whole_from _ _ _ _ (ap (λ (h : Held _ _ _). h.published) c.self.view_is)
    c.try_again.ensures.whole

pub invariant_of-self : goal.invariant_of-self
invariant_of-self g c =
    let means = meaning g.X.Texts.net g.X.Texts.is_valid g.X.Texts.since g.X.Texts.makes g.X.Texts.keeps g.X.Texts.edited g.X.Texts.last in
    let inv = c.self.invariant in
    let old = c.self.inside.bench in
    let new = c.lose-lost.new.self in
    let step = c.lose-lost.ensures in
    let more = (step_goes means old new (Lose c.args.claim c.lose-lost.result) step).more in (
      rw step.0 inv.0,
      rw step.0 inv.1,
      omega (arith, inv.2, more),
      λ owes. absurd (never owes),
      reached_by means old new (Lose c.args.claim c.lose-lost.result) inv.4 step,
    )
