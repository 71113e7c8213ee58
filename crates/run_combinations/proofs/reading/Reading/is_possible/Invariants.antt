use Rattle.std.proofs.Common.{ℕ, ◌≡◌, ◌<◌, Some, slice_get}
use Rattle.bit_rows.specs.Relation.{IsMember}
use Rattle.run_combinations.specs.declared.reading.Load.{Load}
use Rattle.run_combinations.proofs.reading.Reading.is_possible.Given as goal

abbrev pub invariant-loop-load : goal.invariant-loop-load
invariant-loop-load l =
    (k : ℕ) (x : Load) → k < l.load-index → slice_get l.self.loads.items k ≡ Some x
    → IsMember l.derived x.event
