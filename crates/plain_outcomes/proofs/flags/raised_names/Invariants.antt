use Rattle.std.proofs.Common.{take, Contains}
use Rattle.text_values.specs.ModelValues.{clauses_of}
use Rattle.meaning.specs.Outcome.{AreRaised}
use Rattle.plain_runs.specs.Locations.{names_as}
use Rattle.plain_outcomes.proofs.flags.raised_names.Given as goal

abbrev pub invariant-loop-index : goal.invariant-loop-index
invariant-loop-index l =
    AreRaised (λ i. Contains l.raised i) 0 (take l.index (clauses_of l.items)) (names_as l.names.items)
