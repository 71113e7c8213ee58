use Rattle.watch_run.proofs.Changing.{items_held}
use Rattle.watch_run.proofs.changes.holds_items.Goals as goal

pub returns-in-Some : goal.returns-in-Some
returns-in-Some c =
    items_held _ _ _ c.in-Some.changes c.is_empty.result
    (rw c.in-Some.is at c.in_ok-changes.ensures.changes) c.is_empty.ensures
