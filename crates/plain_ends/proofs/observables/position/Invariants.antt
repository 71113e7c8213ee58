use Rattle.std.proofs.Common.{◌≡◌, ◌++◌, take, drop}
use Rattle.meaning.specs.Names.{is_same_observable, with_one}
use Rattle.meaning.specs.Outcome.{is_observable_before}
use Rattle.plain_ends.specs.Ends.{places_as}
use Rattle.plain_ends.proofs.observables.position.Given as goal

abbrev pub invariant-loop-index : goal.invariant-loop-index
invariant-loop-index l =
    with_one is_same_observable is_observable_before l.observable (places_as l.observables)
    ≡ take l.index (places_as l.observables)
    ++ with_one is_same_observable is_observable_before l.observable (drop l.index (places_as l.observables))
