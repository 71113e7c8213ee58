use Rattle.std.proofs.Common.{length, fold, refl, arith, below_more}
use Rattle.desk_ledger.proofs.Appending.{posts_then}
use Rattle.desk_ledger.proofs.AllPosted.{keeps_then}
use Rattle.desk_ledger.proofs.posting.post_range.Goals as goal

pub loop-index-preserved : goal.loop-index-preserved
loop-index-preserved g c =
    let x = g.X.BoardTexts in (
      posts_then x.is_settle x.are_after x.last_number
          (λ l. length (x.cells (fold g.X.Operations.after g.X.Operations.none l)))
          c.args.bench.now.texts _ _ _ c.loop-index.invariant.0 c.if-not-post.ensures.posts,
      below_more _ c.loop-index.index
          (λ k h low. c.post.ensures.kept k (c.loop-index.invariant.1 k h low))
          (λ low. c.if-not-post.ensures.posted refl),
      keeps_then _ _ _ c.loop-index.invariant.2 c.if-not-post.ensures.stays,
    )

pub returns-clause-posted : goal.returns-clause-posted
returns-clause-posted g c ok k low less =
    c.loop-index.invariant.1 k (omega (arith, c.loop-index-test.false, less)) low

pub returns-then-not-post-clause-posts : goal.returns-then-not-post-clause-posts
returns-then-not-post-clause-posts g c =
    let x = g.X.BoardTexts in
    posts_then x.is_settle x.are_after x.last_number
    (λ l. length (x.cells (fold g.X.Operations.after g.X.Operations.none l)))
    c.args.bench.now.texts _ _ _ c.loop-index.invariant.0 c.if-not-post.ensures.posts

pub returns-then-not-post-clause-stays : goal.returns-then-not-post-clause-stays
returns-then-not-post-clause-stays g c =
    keeps_then _ _ _ c.loop-index.invariant.2 c.if-not-post.ensures.stays
