use Rattle.std.proofs.Common.{arith, rules, tests}
use Rattle.std.proofs.lemmas.List.{same_lists}
use Rattle.bench_values.proofs.same.same_flags.Goals as goal

pub returns : goal.returns
returns c = (
  λ t. same_lists c.args.these.now c.args.those.now (omega arith)
      (λ k d lt. c.loop-index.invariant k d (omega (arith, lt))),
  λ e. search (rules, tests),
)
