use Rattle.std.proofs.Common.{◌⊎◌}
use Rattle.bit_rows.specs.Relation.{IsMember, IsEvents}
use Rattle.run_combinations.specs.Rounds.{Stepped, IsEventSubset, store_event}
use Rattle.run_combinations.proofs.reading.Reading.with_stores.Given as goal

abbrev pub invariant-loop-store : goal.invariant-loop-store
invariant-loop-store l =
    IsEvents l.next l.derived.count (λ x. IsMember l.derived x
    ⊎ Stepped store_event (λ k s. IsEventSubset s.needs l.derived) l.derived.count l.store-index
    l.self.stores.items x)
