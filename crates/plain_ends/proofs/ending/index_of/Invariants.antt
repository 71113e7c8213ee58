use Rattle.std.proofs.Common.{take, Contains}
use Rattle.plain_runs.specs.Locations.{names_as}
use Rattle.plain_ends.proofs.ending.index_of.Given as goal

abbrev pub invariant-loop-index : goal.invariant-loop-index
invariant-loop-index l = Contains (take l.index (names_as l.locations)) l.location → ⊥
