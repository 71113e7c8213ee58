use Rattle.std.proofs.Common.{arith, rules, tests}
use Rattle.text_values.specs.TestValue.{thread_steps}
use Rattle.binding_shapes.proofs.Compared.{same_more, same_through, same_here}
use Rattle.bench_values.proofs.same.same_threads.Goals as goal

pub returns-then-not-same_thread : goal.returns-then-not-same_thread
returns-then-not-same_thread c = (
  λ t. search (rules, tests),
  λ same. grind (
    arith,
    c.same_thread.ensures.1 (same_here thread_steps c.args.these.now c.args.those.now
        c.loop-index.index c.index-these-index.result c.index-those-index.result
        (omega arith) (omega arith) c.index-these-index.is c.index-those-index.is same),
  ),
)

pub loop-index-preserved : goal.loop-index-preserved
loop-index-preserved c =
    same_more thread_steps c.args.these.now c.args.those.now c.loop-index.index
    c.index-these-index.result c.index-those-index.result (omega arith) (omega arith)
    c.index-these-index.is c.index-those-index.is
    (c.same_thread.ensures.0 (search (rules, tests))) c.loop-index.invariant

pub returns : goal.returns
returns c = (
  λ t. same_through thread_steps c.args.these.now c.args.those.now (omega arith)
      (λ k d lt. c.loop-index.invariant k d (omega (arith, lt))),
  λ e. search (rules, tests),
)
