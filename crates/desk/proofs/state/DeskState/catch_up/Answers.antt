use Rattle.std.proofs.Common.{fold, refl, ap, sym, ◌∙◌, subst}
use Rattle.std.specs.Prelude.{IfSome}
use Rattle.cells.specs.Cells.{cells as cells_of}
use Rattle.desk_ledger.specs.Boards.{ArePostedBut}
use Rattle.desk.specs.Held.{Held}
use Rattle.desk_ledger.proofs.Growing.{prefix_same, grown_from}
use Rattle.desk.proofs.Refusing.{never}
use Rattle.desk.proofs.Returning.{appends_of}
use Rattle.desk_ledger.proofs.AllPosted.{posted_for}
use Rattle.desk.proofs.state.DeskState.catch_up.Goals as goal

pub invariant_of-self : goal.invariant_of-self
invariant_of-self g c =
    let posts = c.if-not-post.ensures.posts in (
      c.self.invariant.0,
      posts.after,
      rw posts.number c.self.invariant.2,
      λ owes. absurd (never owes),
      c.self.invariant.4,
    )

pub invariant_of-self-then-not-publish : goal.invariant_of-self-then-not-publish
invariant_of-self-then-not-publish g c =
    let p = c.if-not-publish.ensures in
    let posts = c.if-not-post.ensures.posts in (
      c.self.invariant.0,
      rw p.all posts.after,
      rw (p.all, posts.number) c.self.invariant.2,
      λ owes. absurd (never owes),
      c.self.invariant.4,
    )

pub returns-then-not-post-clause-bench : goal.returns-then-not-post-clause-bench
returns-then-not-post-clause-bench g c = ap (λ (h : Held _ _ _). h.bench) c.self.view_is

pub returns-then-not-post-clause-grows : goal.returns-then-not-post-clause-grows
returns-then-not-post-clause-grows g c =
    prefix_same _ _ (c.if-not-post.ensures.posts.published
    ∙ ap (λ (h : Held _ _ _). h.published) c.self.view_is)

pub returns-then-not-post-clause-appends : goal.returns-then-not-post-clause-appends
returns-then-not-post-clause-appends g c =
    let posts = c.if-not-post.ensures.posts in
    appends_of g.X.BoardTexts.is_settle _ c.args.self.now posts.more c.self.view_is
    posts.are_settles _ _ _ _ posts.all

pub returns-then-not-post-clause-posted : goal.returns-then-not-post-clause-posted
returns-then-not-post-clause-posted g c = (
  c.if-not-post.ensures.posts.published ∙ ap (λ (h : Held _ _ _). h.published) c.self.view_is,
  refl,
)

pub returns-then-not-publish-clause-bench : goal.returns-then-not-publish-clause-bench
returns-then-not-publish-clause-bench g c = ap (λ (h : Held _ _ _). h.bench) c.self.view_is

pub returns-then-not-publish-clause-grows : goal.returns-then-not-publish-clause-grows
returns-then-not-publish-clause-grows g c =
    grown_from _ _ _
    (c.if-not-post.ensures.posts.published ∙ ap (λ (h : Held _ _ _). h.published) c.self.view_is)
    c.if-not-publish.ensures.grows

pub returns-then-not-publish-clause-appends : goal.returns-then-not-publish-clause-appends
returns-then-not-publish-clause-appends g c =
    let posts = c.if-not-post.ensures.posts in
    appends_of g.X.BoardTexts.is_settle _ c.args.self.now posts.more c.self.view_is
    posts.are_settles _ _ _ _ (c.if-not-publish.ensures.all ∙ posts.all)

pub returns-then-not-publish-clause-posted : goal.returns-then-not-publish-clause-posted
returns-then-not-publish-clause-posted g c = (
  c.if-not-publish.ensures.published
      ∙ (c.if-not-post.ensures.posts.published
      ∙ ap (λ (h : Held _ _ _). h.published) c.self.view_is),
  refl,
)

pub returns-clause-bench : goal.returns-clause-bench
returns-clause-bench g c = ap (λ (h : Held _ _ _). h.bench) c.self.view_is

pub returns-clause-grows : goal.returns-clause-grows
returns-clause-grows g c =
    grown_from _ _ _
    (c.if-not-post.ensures.posts.published ∙ ap (λ (h : Held _ _ _). h.published) c.self.view_is)
    c.if-not-publish.ensures.grows

pub returns-clause-appends : goal.returns-clause-appends
returns-clause-appends g c =
    let posts = c.if-not-post.ensures.posts in
    appends_of g.X.BoardTexts.is_settle _ c.args.self.now posts.more c.self.view_is
    posts.are_settles _ _ _ _ (c.if-not-publish.ensures.all ∙ posts.all)

pub invariant_of-self-2 : goal.invariant_of-self-2
invariant_of-self-2 g c =
    let means = cells_of g.X.CellTexts.verdict_of g.X.CellTexts.outcome_in g.X.CellTexts.from_scratch g.X.CellTexts.reaches in
    let p = c.if-not-publish.ensures in
    let q = c.if-not-post.ensures in
    let rest = subst (λ (h : Held _ _ _). IfSome c.args.above (λ n. ArePostedBut g.X.Texts.net means h.bench n (g.X.BoardTexts.cells (fold g.X.Operations.after g.X.Operations.none h.all)))) (sym c.self.view_is) c.requires.rest in
    let posted = posted_for g.X.Texts.net means c.self.inside.bench c.args.above (g.X.BoardTexts.cells (fold g.X.Operations.after g.X.Operations.none c.self.inside.ledger.all)) (g.X.BoardTexts.cells (fold g.X.Operations.after g.X.Operations.none c.post.new.self.all)) rest q.stays (q.posted refl) in (
      c.self.invariant.0,
      rw p.all q.posts.after,
      rw (p.all, q.posts.number) c.self.invariant.2,
      λ _. (p.published ∙ sym p.all, rw p.all posted),
      c.self.invariant.4,
    )

pub returns-clause-posted : goal.returns-clause-posted
returns-clause-posted g c =
    let means = cells_of g.X.CellTexts.verdict_of g.X.CellTexts.outcome_in g.X.CellTexts.from_scratch g.X.CellTexts.reaches in
    let p = c.if-not-publish.ensures in
    let q = c.if-not-post.ensures in
    let rest = subst (λ (h : Held _ _ _). IfSome c.args.above (λ n. ArePostedBut g.X.Texts.net means h.bench n (g.X.BoardTexts.cells (fold g.X.Operations.after g.X.Operations.none h.all)))) (sym c.self.view_is) c.requires.rest in (
      p.published ∙ sym p.all,
      rw p.published (posted_for g.X.Texts.net means c.self.inside.bench c.args.above
          (g.X.BoardTexts.cells (fold g.X.Operations.after g.X.Operations.none
          c.self.inside.ledger.all))
          (g.X.BoardTexts.cells (fold g.X.Operations.after g.X.Operations.none
          c.post.new.self.all)) rest q.stays
          (q.posted refl)),
      refl,
    )
