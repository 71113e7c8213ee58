use Rattle.std.proofs.Common.{take, Contains}
use Rattle.plain_runs.specs.Locations.{names_as}
use Rattle.plain_events.proofs.action.has_name.Given as goal

abbrev pub invariant-loop-one : goal.invariant-loop-one
invariant-loop-one l = Contains (take l.one-index (names_as l.names)) l.name → ⊥
