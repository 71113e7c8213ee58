use Rattle.cat_eval.proofs.needs.Needs.add_item.Goals as goal

pub returns-in-Group-clause-names : goal.returns-in-Group-clause-names
returns-in-Group-clause-names c =
    rw c.in-Group.is (rw c.deref.ensures.value at c.add_bodies.ensures.names)
