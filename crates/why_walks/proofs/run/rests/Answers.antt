use Rattle.std.proofs.Common.{◌≡◌, ◌+◌, [], ◌∷◌, ◌++◌, length, arith}
use Rattle.std.proofs.lemmas.List.{length-append}
use Rattle.why_walks.proofs.Walking.{rests_begin, rests_step}
use Rattle.why_walks.proofs.run.rests.Goals as goal

pub back-init : goal.back-init
back-init c =
    rw c.new-rests.ensures.items (
      omega arith,
      λ all. rests_begin c.args.count c.args.links.now c.identity-rest.result
          c.identity-rest.ensures,
    )

pub back-preserved : goal.back-preserved
back-preserved c =
    let long : length (c.back.rests.items ++ c.back.rest ∷ []) ≡ length c.back.rests.items + 1 = length-append c.back.rests.items (c.back.rest ∷ []) in
    let whole : length c.back.rests.items + c.back.left ≡ length c.args.links.now = c.back.invariant.0 in
    rw c.in_ok-push.ensures.items (
      omega (arith, long, whole, c.back-test.true),
      rests_step c.args.count c.args.links.now c.back.rests.items c.back.rest c.back.left
          c.index-links-left.result c.whole.result c.then-rest.result
          (omega (arith, c.back-test.true))
          whole c.index-links-left.is c.whole.ensures c.then-rest.ensures c.back.invariant.1,
    )
