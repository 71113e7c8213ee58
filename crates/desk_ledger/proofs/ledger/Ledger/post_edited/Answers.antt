use Rattle.desk_ledger.proofs.ledger.Ledger.post_edited.Goals as goal

pub post_edited-requires-clause-edited : goal.post_edited-requires-clause-edited
post_edited-requires-clause-edited g c = rw c.self.view_is c.requires.edited
