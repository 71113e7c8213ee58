use Rattle.std.proofs.Common.{◌≡◌, ◌≤◌, false, arith, fold, ap, sym, ◌∙◌, subst}
use Rattle.std.specs.Prelude.{IfSome, IfNone}
use Rattle.memo_core.specs.Laws.{meaning}
use Rattle.memo_core.specs.Run.{Bench, Claim, NoClaim, Refused, Step}
use Rattle.cells.specs.Cells.{cells as cells_of}
use Rattle.desk.specs.Held.{Held}
use Rattle.desk_ledger.proofs.Growing.{grown_from, whole_from}
use Rattle.desk.proofs.Reaching.{reached_by}
use Rattle.desk.proofs.Refusing.{not_claim, not_memory, not_ok, other_closed}
use Rattle.desk.proofs.Returning.{appends_since, still_since, refused_since, given_or_none, posted_claimed, posted_idle, later_claimed, later_idle}
use Rattle.desk_ledger.proofs.AllPosted.{posted_same}
use Rattle.desk.proofs.state.DeskState.claim.Goals as goal

pub invariant_of-self-2 : goal.invariant_of-self-2
invariant_of-self-2 g c =
    let inv = c.self.invariant in
    let e = c.in-Ok.ensures in
    let means = meaning g.X.Texts.net g.X.Texts.is_valid g.X.Texts.since g.X.Texts.makes g.X.Texts.keeps g.X.Texts.edited g.X.Texts.last in
    let of = cells_of g.X.CellTexts.verdict_of g.X.CellTexts.outcome_in g.X.CellTexts.from_scratch g.X.CellTexts.reaches in
    let old = c.self.inside.bench in
    let new = c.claim.new.self in
    let cells = (g.X.BoardTexts.cells (fold g.X.Operations.after g.X.Operations.none c.self.inside.ledger.all)) in
    let later : old.taken ≤ new.taken = given_or_none c.in-Ok.job _ _ _ e.given e.none (λ j step. later_claimed means old new j.claim j.node j.given j.keys j.values step) (λ step. later_idle means old new step) in (
      rw e.texts inv.0,
      rw e.texts inv.1,
      omega (arith, inv.2, later),
      λ owes. (
        (inv.3 owes).0,
        given_or_none c.in-Ok.job _ _ _ e.given e.none
            (λ j step. posted_claimed means of old new cells j.claim j.node j.given j.keys
            j.values step (inv.3 owes).1)
            (λ step. posted_idle means of old new cells step (inv.3 owes).1),
      ),
      given_or_none c.in-Ok.job _ _ _ e.given e.none
          (λ j step. reached_by means old new (Claim j.claim j.node j.given j.keys j.values)
          inv.4 step)
          (λ step. reached_by means old new NoClaim inv.4 step),
    )

pub returns-clause-appends : goal.returns-clause-appends
returns-clause-appends g c =
    let s = c.self.inside in
    appends_since g.X.BoardTexts.is_settle s.bench c.claim.new.self s.ledger.all s.ledger.published
    s.seats s.closed _ _ c.args.self.now c.try_again.new.self c.self.view_is
    c.try_again.ensures.appends

pub returns-clause-grows : goal.returns-clause-grows
returns-clause-grows g c =
    grown_from _ _ _ (ap (λ (h : Held _ _ _). h.published) c.self.view_is) c.try_again.ensures.grows

pub returns-clause-closed : goal.returns-clause-closed
returns-clause-closed g c =
    other_closed _ _ (not_ok _) (sym (ap (λ (h : Held _ _ _). h.closed) c.self.view_is)
    ∙ c.if-self.false)

pub invariant_of-self : goal.invariant_of-self
invariant_of-self g c =
    let inv = c.self.invariant in
    let same = c.claim.ensures.texts in
    let refused = c.in-Err-OutOfMemory.ensures.refused in
    let taken = refused.taken in
    let means = meaning g.X.Texts.net g.X.Texts.is_valid g.X.Texts.since g.X.Texts.makes g.X.Texts.keeps g.X.Texts.edited g.X.Texts.last in
    let of = cells_of g.X.CellTexts.verdict_of g.X.CellTexts.outcome_in g.X.CellTexts.from_scratch g.X.CellTexts.reaches in
    let cells = (g.X.BoardTexts.cells (fold g.X.Operations.after g.X.Operations.none c.self.inside.ledger.all)) in (
      rw same inv.0,
      rw same inv.1,
      omega (arith, inv.2, taken),
      λ owes. (
        (inv.3 owes).0,
        posted_same means.net of c.self.inside.bench c.claim.new.self cells same refused.memos
            (inv.3 owes).1,
      ),
      reached_by means c.self.inside.bench c.claim.new.self Refused inv.4 refused,
    )

pub returns-in-Err-OutOfMemory-clause-err : goal.returns-in-Err-OutOfMemory-clause-err
returns-in-Err-OutOfMemory-clause-err g c =
    let means = meaning g.X.Texts.net g.X.Texts.is_valid g.X.Texts.since g.X.Texts.makes g.X.Texts.keeps g.X.Texts.edited g.X.Texts.last in
    let s = c.self.inside in
    refused_since means s.bench c.claim.new.self s.ledger.all s.ledger.published s.seats s.closed _
    _ c.args.self.now c.self.view_is c.in-Err-OutOfMemory.ensures.refused

pub returns-in-Err-OutOfMemory-clause-closed : goal.returns-in-Err-OutOfMemory-clause-closed
returns-in-Err-OutOfMemory-clause-closed g c =
    other_closed _ _ not_memory (sym (ap (λ (h : Held _ _ _). h.closed) c.self.view_is)
    ∙ c.if-self.false)

pub invariant_of-self-in-Err-Spent : goal.invariant_of-self-in-Err-Spent
invariant_of-self-in-Err-Spent g c =
    let inv = c.self.invariant in
    let same = c.claim.ensures.texts in
    let refused = c.in-Err-Spent.ensures.refused in
    let taken = refused.taken in
    let means = meaning g.X.Texts.net g.X.Texts.is_valid g.X.Texts.since g.X.Texts.makes g.X.Texts.keeps g.X.Texts.edited g.X.Texts.last in
    let of = cells_of g.X.CellTexts.verdict_of g.X.CellTexts.outcome_in g.X.CellTexts.from_scratch g.X.CellTexts.reaches in
    let cells = (g.X.BoardTexts.cells (fold g.X.Operations.after g.X.Operations.none c.self.inside.ledger.all)) in (
      rw same inv.0,
      rw same inv.1,
      omega (arith, inv.2, taken),
      λ owes. (
        (inv.3 owes).0,
        posted_same means.net of c.self.inside.bench c.claim.new.self cells same refused.memos
            (inv.3 owes).1,
      ),
      reached_by means c.self.inside.bench c.claim.new.self Refused inv.4 refused,
    )

pub returns-in-Err-Spent-clause-err : goal.returns-in-Err-Spent-clause-err
returns-in-Err-Spent-clause-err g c =
    let means = meaning g.X.Texts.net g.X.Texts.is_valid g.X.Texts.since g.X.Texts.makes g.X.Texts.keeps g.X.Texts.edited g.X.Texts.last in
    let s = c.self.inside in
    refused_since means s.bench c.claim.new.self s.ledger.all s.ledger.published s.seats s.closed _
    _ c.args.self.now c.self.view_is c.in-Err-Spent.ensures.refused

pub returns-in-Err-Spent-clause-closed : goal.returns-in-Err-Spent-clause-closed
returns-in-Err-Spent-clause-closed g c =
    other_closed _ _ (not_claim _) (sym (ap (λ (h : Held _ _ _). h.closed) c.self.view_is)
    ∙ c.if-self.false)

pub returns-clause-given : goal.returns-clause-given
returns-clause-given g c =
    let means = meaning g.X.Texts.net g.X.Texts.is_valid g.X.Texts.since g.X.Texts.makes g.X.Texts.keeps g.X.Texts.edited g.X.Texts.last in
    let s = c.self.inside in
    let after = subst (λ (n : Bench _ _). IfSome c.in-Ok.job (λ j. Step means s.bench (Claim j.claim j.node j.given j.keys j.values) n)) (sym c.try_again.ensures.bench) c.in-Ok.ensures.given in
    subst
    (λ (b : Bench _ _). IfSome c.in-Ok.job (λ j. Step means b
    (Claim j.claim j.node j.given j.keys j.values) c.try_again.new.self.bench))
    (ap (λ (h : Held _ _ _). h.bench) c.self.view_is) after

pub returns-clause-none : goal.returns-clause-none
returns-clause-none g c =
    let means = meaning g.X.Texts.net g.X.Texts.is_valid g.X.Texts.since g.X.Texts.makes g.X.Texts.keeps g.X.Texts.edited g.X.Texts.last in
    let s = c.self.inside in
    let after = subst (λ (n : Bench _ _). IfNone c.in-Ok.job (Step means s.bench NoClaim n)) (sym c.try_again.ensures.bench) c.in-Ok.ensures.none in
    subst (λ (b : Bench _ _). IfNone c.in-Ok.job (Step means b NoClaim c.try_again.new.self.bench))
    (ap (λ (h : Held _ _ _). h.bench) c.self.view_is) after

pub returns-clause-still : goal.returns-clause-still
returns-clause-still g c owes =
    let s = c.self.inside in
    let before : s.owes ≡ false = ap (λ (h : Held _ _ _). h.owes) c.self.view_is ∙ owes in
    still_since s.bench c.claim.new.self s.ledger.all s.ledger.published s.seats s.closed s.owes
    c.args.self.now c.try_again.new.self c.self.view_is before
    (c.try_again.ensures.still before)

pub returns-clause-whole : goal.returns-clause-whole
returns-clause-whole g c =
    whole_from _ _ _ _ (ap (λ (h : Held _ _ _). h.published) c.self.view_is)
    c.try_again.ensures.whole
