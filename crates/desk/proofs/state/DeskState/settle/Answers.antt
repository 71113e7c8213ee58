use Rattle.std.proofs.Common.{◌≡◌, ◌<◌, List, length, fold, refl, ap, sym, ◌∙◌, subst}
use mathlib.Core.List.{IsPrefix}
use Rattle.desk_ledger.specs.Boards.{AreSettled}
use Rattle.desk.specs.Held.{Held}
use Rattle.desk_ledger.proofs.Growing.{begins_after}
use Rattle.desk.proofs.Refusing.{never, not_ok, not_seat, other_closed, other_seat, seat_not_ok}
use Rattle.desk.proofs.Returning.{ahead_of, behind_of, is_owed, is_unowed}
use Rattle.desk.proofs.state.DeskState.settle.Goals as goal

pub returns-then-not-begins_with-clause-closed : goal.returns-then-not-begins_with-clause-closed
returns-then-not-begins_with-clause-closed g c =
    other_closed _ _ not_seat (sym (ap (λ (h : Held _ _ _). h.closed) c.self.view_is)
    ∙ c.if-self.false)

pub returns-then-not-show_all-clause-closed : goal.returns-then-not-show_all-clause-closed
returns-then-not-show_all-clause-closed g c =
    other_closed _ _ (not_ok _) (sym (ap (λ (h : Held _ _ _). h.closed) c.self.view_is)
    ∙ c.if-self.false)

pub returns-then-not-is_settled-clause-closed : goal.returns-then-not-is_settled-clause-closed
returns-then-not-is_settled-clause-closed g c =
    other_closed _ _ (not_ok _) (sym (ap (λ (h : Held _ _ _). h.closed) c.self.view_is)
    ∙ c.if-self.false)

pub returns-clause-closed : goal.returns-clause-closed
returns-clause-closed g c =
    other_closed _ _ (not_ok _) (sym (ap (λ (h : Held _ _ _). h.closed) c.self.view_is)
    ∙ c.if-self.false)

pub returns-then-not-show_all-clause-bench : goal.returns-then-not-show_all-clause-bench
returns-then-not-show_all-clause-bench g c = c.show_all.ensures.bench

pub returns-then-not-show_all-clause-appends : goal.returns-then-not-show_all-clause-appends
returns-then-not-show_all-clause-appends g c = c.show_all.ensures.appends

pub returns-then-not-show_all-clause-grows : goal.returns-then-not-show_all-clause-grows
returns-then-not-show_all-clause-grows g c = c.show_all.ensures.grows

pub returns-then-not-show_all-clause-settles : goal.returns-then-not-show_all-clause-settles
returns-then-not-show_all-clause-settles g c = (refl, is_owed _ c.if-not-show_all.ensures.owes)

pub returns-then-not-is_settled-clause-bench : goal.returns-then-not-is_settled-clause-bench
returns-then-not-is_settled-clause-bench g c = c.show_all.ensures.bench

pub returns-then-not-is_settled-clause-appends : goal.returns-then-not-is_settled-clause-appends
returns-then-not-is_settled-clause-appends g c = c.show_all.ensures.appends

pub returns-then-not-is_settled-clause-grows : goal.returns-then-not-is_settled-clause-grows
returns-then-not-is_settled-clause-grows g c = c.show_all.ensures.grows

pub returns-then-not-is_settled-clause-settles : goal.returns-then-not-is_settled-clause-settles
returns-then-not-is_settled-clause-settles g c =
    let owes = is_unowed _ c.if-not-show_all.ensures.owes in
    let shown = c.if-not-show_all.ensures.shown owes in
    let whole = shown.0 in
    record {
      told = refl;
      whole = whole;
      posted = shown.1;
      owes = owes;
      count = c.change_count.ensures ∙ ap length (sym whole);
    }

pub returns-clause-bench : goal.returns-clause-bench
returns-clause-bench g c = c.show_all.ensures.bench

pub returns-clause-appends : goal.returns-clause-appends
returns-clause-appends g c = c.show_all.ensures.appends

pub returns-clause-grows : goal.returns-clause-grows
returns-clause-grows g c = c.show_all.ensures.grows

pub returns-clause-settles : goal.returns-clause-settles
returns-clause-settles g c =
    let me = c.args.me.now in
    let new = c.show_all.new.self in
    let a = c.show_all.ensures.appends in
    let all : c.self-2.inside.ledger.all ≡ new.all = ap (λ (h : Held _ _ _). h.all) c.self-2.view_is in
    let owes = is_unowed _ c.if-not-show_all.ensures.owes in
    let whole : new.published ≡ new.all = (c.if-not-show_all.ensures.shown owes).0 in
    let behind : IsPrefix me c.args.self.now.all = subst (λ (l : List _). IsPrefix me l) (ap (λ (h : Held _ _ _). h.all) c.self.view_is) (c.if-not-begins_with.ensures.begins refl) in
    let begins : IsPrefix me new.all = begins_after me c.args.self.now.all a.settles new.all behind a.all in
    let told = c.tell_all.ensures.told (subst (λ (l : List _). IsPrefix me l) (sym all) begins) in
    record {
      list = told ∙ (all ∙ sym whole);
      whole = whole;
      begins = subst (λ (l : List _). IsPrefix me l) (sym (told ∙ all)) begins;
      settled =
          subst
          (λ (l : List _).
          AreSettled (g.X.BoardTexts.cells (fold g.X.Operations.after g.X.Operations.none l)))
          (sym told)
          (c.is_settled.ensures c.if-not-is_settled.false);
      legal = subst (λ (l : List _). g.X.Operations.is_legal l) (sym told) c.tell_all.ensures.legal;
      owes = owes;
    }

pub returns-then-not-show_all-clause-no_seat : goal.returns-then-not-show_all-clause-no_seat
returns-then-not-show_all-clause-no_seat g c =
    other_seat _ _ _ _ (seat_not_ok _) (behind_of _ c.args.self.now c.args.me.now c.self.view_is
    (c.if-not-begins_with.ensures.length.0 refl))

pub returns-then-not-is_settled-clause-no_seat : goal.returns-then-not-is_settled-clause-no_seat
returns-then-not-is_settled-clause-no_seat g c =
    other_seat _ _ _ _ (seat_not_ok _) (behind_of _ c.args.self.now c.args.me.now c.self.view_is
    (c.if-not-begins_with.ensures.length.0 refl))

pub returns-clause-no_seat : goal.returns-clause-no_seat
returns-clause-no_seat g c =
    other_seat _ _ _ _ (seat_not_ok _) (behind_of _ c.args.self.now c.args.me.now c.self.view_is
    (c.if-not-begins_with.ensures.length.0 refl))

pub returns-then-not-begins_with-clause-no_seat : goal.returns-then-not-begins_with-clause-no_seat
returns-then-not-begins_with-clause-no_seat g c =
    let less : length c.args.self.now.all < length c.args.me.now = ahead_of _ c.args.self.now c.args.me.now c.self.view_is (λ le. never (sym (c.if-not-begins_with.ensures.length.1 le))) in (
      λ e. (sym (ap (λ (h : Held _ _ _). h.closed) c.self.view_is) ∙ c.if-self.false, less),
      λ h. refl,
    )

pub returns-then-not-show_all-clause-whole : goal.returns-then-not-show_all-clause-whole
returns-then-not-show_all-clause-whole g c = c.show_all.ensures.whole

pub returns-then-not-is_settled-clause-whole : goal.returns-then-not-is_settled-clause-whole
returns-then-not-is_settled-clause-whole g c = c.show_all.ensures.whole

pub returns-clause-whole : goal.returns-clause-whole
returns-clause-whole g c = c.show_all.ensures.whole
