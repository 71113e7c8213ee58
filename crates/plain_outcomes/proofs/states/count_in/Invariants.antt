use Rattle.std.proofs.Common.{◌≡◌, ◌≤◌, take}
use Rattle.plain_ends.specs.Ends.{values_as}
use Rattle.plain_outcomes.specs.States.{end_state, HaveCount}
use Rattle.plain_outcomes.proofs.states.count_in.Given as goal

abbrev pub invariant-loop-end : goal.invariant-loop-end
invariant-loop-end l = record {
  bound : l.count ≤ l.end-index;
  counted : HaveCount (λ e. end_state e ≡ values_as l.values) (take l.end-index l.ends) l.count;
}
