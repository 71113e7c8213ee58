use Rattle.std.proofs.Common.{take}
use Rattle.thread_runs.specs.LocationValues.{AreLeft, MayHold}
use Rattle.thread_runs.proofs.location_values.values_at.Given as goal

abbrev pub invariant-loop-value : goal.invariant-loop-value
invariant-loop-value l =
    AreLeft (λ u. MayHold l.program l.location u → ⊥) (take l.value-index l.values) l.found.items
