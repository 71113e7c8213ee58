use Rattle.std.proofs.Common.{[], ◌++◌, take}
use Rattle.text_values.specs.TestValue.{formula_of}
use Rattle.outcome_states.specs.Meaning.{observables_of}
use Rattle.outcome_states.specs.Shown.{known_observables, AddsObservables}
use Rattle.outcome_states.proofs.observable.shown_observables.Given as goal

abbrev pub invariant-loop-observable : goal.invariant-loop-observable
invariant-loop-observable l =
    AddsObservables [] l.shown.keys (known_observables l.locations (observables_of (formula_of l.proposition)
    ++ take l.observable-index l.observed))
