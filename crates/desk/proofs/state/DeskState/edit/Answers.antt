use Rattle.std.proofs.Common.{◌<◌, length, List, fold, refl, ap, sym, ◌∙◌, subst}
use mathlib.Core.List.{IsPrefix}
use Rattle.memo_core.specs.Laws.{meaning}
use Rattle.memo_core.specs.Run.{Edit, Refused}
use Rattle.cells.specs.Cells.{cells as cells_of}
use Rattle.desk.specs.Held.{Held}
use Rattle.desk_ledger.proofs.Growing.{begins_edit}
use Rattle.desk.proofs.Reaching.{reached_by}
use Rattle.desk.proofs.Refusing.{never, not_ok, not_seat, other_closed, other_seat, seat_not_ok}
use Rattle.desk.proofs.Returning.{ahead_of, behind_of, has_edit, was_so}
use Rattle.desk_ledger.proofs.AllPosted.{posted_refused}
use Rattle.desk.proofs.state.DeskState.edit.Goals as goal

pub post_edit-requires-clause-edited : goal.post_edit-requires-clause-edited
post_edit-requires-clause-edited g c owed = record {
  before = c.self.inside.bench;
  edit = c.args.edit;
  number = c.in_ok-number.number;
  ops = c.self.inside.ledger.all;
  step = (c.in_ok-number.ensures.made).step;
  made = c.in_ok-number.ensures.edited;
  posted = (c.self.invariant.3 owed).1;
}

pub invariant_of-self-2 : goal.invariant_of-self-2
invariant_of-self-2 g c =
    let means = meaning g.X.Texts.net g.X.Texts.is_valid g.X.Texts.since g.X.Texts.makes g.X.Texts.keeps g.X.Texts.edited g.X.Texts.last in
    let p = c.if-not-publish.ensures in
    let q = c.post_edit.ensures in
    let made = c.in_ok-number.ensures in (
      made.valid,
      rw p.all q.posts.after,
      rw (p.all, q.posts.number) made.last,
      λ owes. (p.published ∙ sym p.all, rw p.all (q.posted (was_so c.post_edit.result owes))),
      reached_by means c.self.inside.bench c.make_edit.new.bench (Edit c.args.edit)
          c.self.invariant.4 (made.made).step,
    )

pub returns-clause-published : goal.returns-clause-published
returns-clause-published g c =
    let p = c.if-not-publish.ensures in
    let made = c.in_ok-number.ensures.made in
    let posts = c.post_edit.ensures.posts in
    let behind = c.if-not-begins_with.ensures.begins refl in
    let begins = subst (λ (l : List _). IsPrefix c.args.me.now l) (sym p.all) (begins_edit _ _ made.op _ posts.more _ behind made.list posts.all) in
    (p.published ∙ sym p.all, c.tell_all.ensures.told begins)

pub returns-clause-told : goal.returns-clause-told
returns-clause-told g c =
    let p = c.if-not-publish.ensures in
    let made = c.in_ok-number.ensures.made in
    let posts = c.post_edit.ensures.posts in
    let behind = c.if-not-begins_with.ensures.begins refl in
    let begins = subst (λ (l : List _). IsPrefix c.args.me.now l) (sym p.all) (begins_edit _ _ made.op _ posts.more _ behind made.list posts.all) in
    let told = c.tell_all.ensures.told begins in
    has_edit _ g.X.Operations.is_legal g.X.BoardTexts.is_edit g.X.BoardTexts.is_settle c.args.edit
    c.in_ok-number.number _ _ c.args.me.now _ _ posts.more c.post_edit.new.ledger.all _ behind made
    posts.are_settles posts.all (told ∙ p.all) (rw told c.tell_all.ensures.legal)

pub returns-then-not-publish-clause-told : goal.returns-then-not-publish-clause-told
returns-then-not-publish-clause-told g c =
    let p = c.if-not-publish.ensures in
    let made = c.in_ok-number.ensures.made in
    let posts = c.post_edit.ensures.posts in
    let behind = c.if-not-begins_with.ensures.begins refl in (
      refl,
      (
        c.publish.new.self.all,
        has_edit _ g.X.Operations.is_legal g.X.BoardTexts.is_edit
            g.X.BoardTexts.is_settle c.args.edit c.in_ok-number.number _ _ c.args.me.now
            _ _ posts.more c.post_edit.new.ledger.all _ behind made posts.are_settles posts.all
            p.all p.legal,
      ),
    )

pub invariant_of-self : goal.invariant_of-self
invariant_of-self g c =
    let means = meaning g.X.Texts.net g.X.Texts.is_valid g.X.Texts.since g.X.Texts.makes g.X.Texts.keeps g.X.Texts.edited g.X.Texts.last in
    let inv = c.self.invariant in
    let made = c.make_edit.ensures in
    let refused = c.in_err-number.ensures.err in
    let of = cells_of g.X.CellTexts.verdict_of g.X.CellTexts.outcome_in g.X.CellTexts.from_scratch g.X.CellTexts.reaches in
    let old = c.self.inside.bench in
    let new = c.make_edit.new.bench in
    let cells = (g.X.BoardTexts.cells (fold g.X.Operations.after g.X.Operations.none c.self.inside.ledger.all)) in
    let since = refused.0.texts.since old.texts (g.met.X.Texts.since_same old.texts inv.0) in (
      made.valid,
      made.after,
      made.last,
      λ owes. rw refused.1 (
        (inv.3 owes).0,
        posted_refused g.X.Texts.net of old new cells refused.0.texts.net refused.0.memos
            (λ test model. g.met.X.BoardTexts.verdict_same old.texts new.texts test model inv.0
            refused.0.texts.last since) (inv.3 owes).1,
      ),
      reached_by means old new Refused inv.4 refused.0,
    )

pub invariant_of-self-then-not-publish : goal.invariant_of-self-then-not-publish
invariant_of-self-then-not-publish g c =
    let means = meaning g.X.Texts.net g.X.Texts.is_valid g.X.Texts.since g.X.Texts.makes g.X.Texts.keeps g.X.Texts.edited g.X.Texts.last in
    let p = c.if-not-publish.ensures in
    let posts = c.post_edit.ensures.posts in
    let made = c.in_ok-number.ensures in (
      made.valid,
      rw p.all posts.after,
      rw (p.all, posts.number) made.last,
      λ owes. absurd (never owes),
      reached_by means c.self.inside.bench c.make_edit.new.bench (Edit c.args.edit)
          c.self.invariant.4 (made.made).step,
    )

pub returns-then-not-publish-clause-published : goal.returns-then-not-publish-clause-published
returns-then-not-publish-clause-published g c = (
  c.if-not-publish.ensures.published
      ∙ (c.post_edit.ensures.posts.published
      ∙ (c.in_ok-number.ensures.published
      ∙ ap (λ (h : Held _ _ _). h.published) c.self.view_is)),
  refl,
)

pub returns-then-not-begins_with-clause-closed : goal.returns-then-not-begins_with-clause-closed
returns-then-not-begins_with-clause-closed g c =
    other_closed _ _ not_seat (sym (ap (λ (h : Held _ _ _). h.closed) c.self.view_is)
    ∙ c.if-self.false)

pub returns-then-not-publish-clause-closed : goal.returns-then-not-publish-clause-closed
returns-then-not-publish-clause-closed g c =
    other_closed _ _ (not_ok _) (sym (ap (λ (h : Held _ _ _). h.closed) c.self.view_is)
    ∙ c.if-self.false)

pub returns-clause-closed : goal.returns-clause-closed
returns-clause-closed g c =
    other_closed _ _ (not_ok _) (sym (ap (λ (h : Held _ _ _). h.closed) c.self.view_is)
    ∙ c.if-self.false)

pub returns-then-not-publish-clause-shown : goal.returns-then-not-publish-clause-shown
returns-then-not-publish-clause-shown g c = λ owes. absurd (never owes)

pub returns-clause-shown : goal.returns-clause-shown
returns-clause-shown g c = λ owes.
    let p = c.if-not-publish.ensures in (
      p.published ∙ sym p.all,
      rw p.published (c.post_edit.ensures.posted (was_so c.post_edit.result owes)),
    )

pub returns-then-not-publish-clause-no_seat : goal.returns-then-not-publish-clause-no_seat
returns-then-not-publish-clause-no_seat g c =
    other_seat _ _ _ _ (seat_not_ok _) (behind_of _ c.args.self.now c.args.me.now c.self.view_is
    (c.if-not-begins_with.ensures.length.0 refl))

pub returns-clause-no_seat : goal.returns-clause-no_seat
returns-clause-no_seat g c =
    other_seat _ _ _ _ (seat_not_ok _) (behind_of _ c.args.self.now c.args.me.now c.self.view_is
    (c.if-not-begins_with.ensures.length.0 refl))

pub returns-then-not-begins_with-clause-no_seat : goal.returns-then-not-begins_with-clause-no_seat
returns-then-not-begins_with-clause-no_seat g c =
    let less : length c.args.self.now.all < length c.args.me.now = ahead_of _ c.args.self.now c.args.me.now c.self.view_is (λ le. never (sym (c.if-not-begins_with.ensures.length.1 le))) in (
      λ e. (sym (ap (λ (h : Held _ _ _). h.closed) c.self.view_is) ∙ c.if-self.false, less),
      λ h. refl,
    )
