use Rattle.std.proofs.Common.{arith, rules, tests}
use Rattle.std.proofs.lemmas.List.{same_lists}
use Rattle.candidate_spaces.proofs.same.are_same_events.Goals as goal

pub returns : goal.returns
returns c = (
  λ t. same_lists c.args.first.now c.args.second.now (omega arith)
      (λ k d lt. c.loop-index.invariant k d (omega (arith, lt))),
  λ e. search (rules, tests),
)
