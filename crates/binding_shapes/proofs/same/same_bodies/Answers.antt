use Rattle.std.proofs.Common.{arith, rules, tests}
use Rattle.binding_shapes.proofs.Compared.{same_more, same_through, same_here}
use Rattle.binding_shapes.proofs.Shaped.{body_shape, shapes_from, shapes_to}
use Rattle.binding_shapes.proofs.same.same_bodies.Goals as goal

pub returns-then-not-same_body : goal.returns-then-not-same_body
returns-then-not-same_body c = (
  λ t. search (rules, tests),
  λ same. grind (
    arith,
    c.same_body.ensures.1 (same_here body_shape c.args.these.now c.args.those.now
        c.loop-index.index c.index-these-index.result c.index-those-index.result
        (omega arith) (omega arith) c.index-these-index.is c.index-those-index.is
        (shapes_from c.args.these.now c.args.those.now same)),
  ),
)

pub loop-index-preserved : goal.loop-index-preserved
loop-index-preserved c =
    same_more body_shape c.args.these.now c.args.those.now c.loop-index.index
    c.index-these-index.result c.index-those-index.result (omega arith) (omega arith)
    c.index-these-index.is c.index-those-index.is
    (c.same_body.ensures.0 (search (rules, tests))) c.loop-index.invariant

pub returns : goal.returns
returns c = (
  λ t. shapes_to c.args.these.now c.args.those.now
      (same_through body_shape c.args.these.now c.args.those.now (omega arith)
      (λ k d lt. c.loop-index.invariant k d (omega (arith, lt)))),
  λ e. search (rules, tests),
)
