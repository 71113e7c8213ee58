use Rattle.std.proofs.Common.{◌≡◌, take}
use Rattle.bench_instance.proofs.copies.copied_states.Given as goal

abbrev pub invariant-loop-state : goal.invariant-loop-state
invariant-loop-state l = l.copies.items ≡ take l.state-index l.states
