use Rattle.std.proofs.Common.{◌⊎◌}
use Rattle.bit_rows.specs.Relation.{IsMember, IsEvents}
use Rattle.run_combinations.specs.Rounds.{Stepped, CanArise, load_event}
use Rattle.run_combinations.proofs.reading.Reading.with_loads.Given as goal

abbrev pub invariant-loop-index : goal.invariant-loop-index
invariant-loop-index l =
    IsEvents l.next l.derived.count (λ x. IsMember l.derived x
    ⊎ Stepped load_event (CanArise l.reads_from l.without l.derived) l.derived.count l.index
    l.self.loads.items x)
