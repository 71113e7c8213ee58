use Rattle.std.proofs.Common.{arith, rules, tests}
use Rattle.bench_slices.specs.Slices.{clause_at}
use Rattle.bench_slices.proofs.Compared.{same_through, same_here}
use Rattle.bench_slices.proofs.lists.are_same_items.Goals as goal

pub returns-then-not-is_same_item : goal.returns-then-not-is_same_item
returns-then-not-is_same_item c = (
  λ t. search (rules, tests),
  λ same. grind (
    arith,
    c.is_same_item.ensures.1 (same_here (clause_at c.args.first.now)
        (clause_at c.args.second.now) 0 0 c.args.indexes.now c.args.others.now
        c.loop-index.index (omega arith) (omega arith) same),
  ),
)

pub returns : goal.returns
returns c = (
  λ t. same_through (clause_at c.args.first.now) (clause_at c.args.second.now) 0 0
      c.args.indexes.now c.args.others.now (omega arith)
      (λ k lt. c.loop-index.invariant k (omega (arith, lt))),
  λ e. search (rules, tests),
)
