use Rattle.std.proofs.Common.{◌≡◌, ◌++◌}
use Rattle.std.specs.List.{All}
use Rattle.outcome_states.specs.Counting.{pairs_of, pairs_in}
use Rattle.verdict.specs.Evaluated.{IsWorded}
use Rattle.verdict.proofs.judgement.counted_states.Given as goal

abbrev pub invariant-loop-values : goal.invariant-loop-values
invariant-loop-values l =
    (pairs_of l.states.items ++ pairs_in l.values-iterator ≡ pairs_in l.fn.counts.entries)
    × All (IsWorded l.locations l.observables l.formula) l.states.items
