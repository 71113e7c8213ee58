use Rattle.bit_rows.proofs.Columns.{taken_apart, made_relation}
use Rattle.bit_relations.proofs.rel.Rel.count.Goals as goal

pub returns-clause-regular : goal.returns-clause-regular
returns-clause-regular c =
    rw (← c.self.view_is) (made_relation (taken_apart _ _ _ c.self.invariant)).regular
