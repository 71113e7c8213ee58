use Rattle.cat_machine.proofs.column.Column.read_set.Goals as goal

pub returns-in-Sets-clause-value : goal.returns-in-Sets-clause-value
returns-in-Sets-clause-value c =
    λ k low high. rw c.in-Sets.is (c.read_events.ensures.value k low high)
