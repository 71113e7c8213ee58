use Rattle.std.proofs.Common.{arith, rules, tests}
use Rattle.bench_slices.specs.Slices.{uses_at}
use Rattle.bench_slices.proofs.Compared.{same_through, same_here}
use Rattle.bench_slices.proofs.uses.are_same_uses.Goals as goal

pub returns-then-not-is_same_use : goal.returns-then-not-is_same_use
returns-then-not-is_same_use c = (
  λ t. search (rules, tests),
  λ same. grind (
    arith,
    c.is_same_use.ensures.1 (same_here
        (uses_at c.args.first.now.numbers.now c.args.first.now.resolved.now)
        (uses_at c.args.second.now.numbers.now c.args.second.now.resolved.now) 0 0
        c.args.first.now.used.now c.args.second.now.used.now c.loop-index.index
        (omega arith) (omega arith) same),
  ),
)

pub returns : goal.returns
returns c = (
  λ t. same_through (uses_at c.args.first.now.numbers.now c.args.first.now.resolved.now)
      (uses_at c.args.second.now.numbers.now c.args.second.now.resolved.now) 0 0
      c.args.first.now.used.now c.args.second.now.used.now (omega arith)
      (λ k lt. c.loop-index.invariant k (omega (arith, lt))),
  λ e. search (rules, tests),
)
