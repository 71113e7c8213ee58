use Rattle.std.proofs.Common.{◌≡◌, ◌≤◌, take}
use Rattle.plain_outcomes.specs.States.{HaveCount}
use Rattle.plain_outcomes.proofs.states.count_holding.Given as goal

abbrev pub invariant-loop-end : goal.invariant-loop-end
invariant-loop-end l = record {
  bound : l.count ≤ l.end-index;
  counted : HaveCount (λ e. e.holds ≡ l.holds) (take l.end-index l.ends) l.count;
}
