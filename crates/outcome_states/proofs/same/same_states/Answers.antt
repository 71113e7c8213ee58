use Rattle.std.proofs.Common.{arith, rules, tests}
use Rattle.std.proofs.lemmas.List.{same_lists}
use Rattle.outcome_states.proofs.same.same_states.Goals as goal

pub returns : goal.returns
returns c = (
  λ t. same_lists c.args.left.now c.args.right.now (omega arith)
      (λ k d lt. c.loop-index.invariant k d (omega (arith, lt))),
  λ e. search (rules, tests),
)
