use Rattle.std.proofs.Common.{arith, rules, tests, slice_get}
use Rattle.bench_slices.proofs.Compared.{same_through, same_here}
use Rattle.bench_slices.proofs.lists.are_same_numbers.Goals as goal

pub returns-then-not-is_same_number : goal.returns-then-not-is_same_number
returns-then-not-is_same_number c = (
  λ t. search (rules, tests),
  λ same. grind (
    arith,
    c.is_same_number.ensures.1 (same_here (slice_get c.args.first.now)
        (slice_get c.args.second.now) 0 0 c.args.indexes.now c.args.others.now
        c.loop-index.index (omega arith) (omega arith) same),
  ),
)

pub returns : goal.returns
returns c = (
  λ t. same_through (slice_get c.args.first.now) (slice_get c.args.second.now) 0 0
      c.args.indexes.now c.args.others.now (omega arith)
      (λ k lt. c.loop-index.invariant k (omega (arith, lt))),
  λ e. search (rules, tests),
)
