use Rattle.cat_machine.proofs.column.Column.read_relation.Goals as goal

pub returns-in-Relations-clause-value : goal.returns-in-Relations-clause-value
returns-in-Relations-clause-value c =
    λ k low high. rw c.in-Relations.is (c.read_pairs.ensures.value k low high)
