use Rattle.std.proofs.Common.{◌≡◌, ℕ, ◌<◌, false, get_or}
use Rattle.outcome_states.specs.declared.observable.Observable.TheVariants.{Register}
use Rattle.outcome_states.specs.Order.{is_observable}
use Rattle.outcome_states.proofs.formula.observable_number.Given as goal

abbrev pub invariant-loop-i : goal.invariant-loop-i
invariant-loop-i l = (k : ℕ) → k < l.i → is_observable l.observable (get_or l.observables k (Register 0 0)) ≡ false
