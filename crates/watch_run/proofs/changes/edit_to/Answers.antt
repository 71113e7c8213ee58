use Rattle.bench_texts.specs.Held.{texts_of}
use Rattle.watch_run.proofs.Changing.{change_edit}
use Rattle.watch_run.proofs.changes.edit_to.Goals as goal

pub returns-in_ok-item_edit-in-Some-clause-edit : goal.returns-in_ok-item_edit-in-Some-clause-edit
returns-in_ok-item_edit-in-Some-clause-edit c =
    change_edit _ (texts_of c.args.texts.now) c.in-Some.model.now _ _ c.args.change
    c.in-Some.ensures (rw c.deref.ensures.value at c.in_ok-item_edit-in-Some.ensures)
