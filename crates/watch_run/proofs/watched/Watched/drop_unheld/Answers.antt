use Rattle.std.proofs.Common.{◌∙◌}
use Rattle.watch_run.proofs.Edited.{dropped_away, dropped_one}
use Rattle.watch_run.proofs.watched.Watched.drop_unheld.Goals as goal

pub returns-in-None-2-clause-edits : goal.returns-in-None-2-clause-edits
returns-in-None-2-clause-edits g c =
    dropped_one _ _ _ _ _ c.is_held.result _ _ _ _ c.in-Some.is
    (c.in_ok-test.ensures.items ∙ c.as_bytes.ensures) c.deref.ensures.value c.is_held.ensures
    c.if-is_held.false (rw c.in-None-2.is at c.in_ok-make.ensures.made)
    (rw c.in-None-2.is at c.in_ok-make.ensures.counted)

pub returns-in-Some-NoTest-clause-edits : goal.returns-in-Some-NoTest-clause-edits
returns-in-Some-NoTest-clause-edits g c =
    dropped_away _ _ _ _ _ _ _ _ c.in-Some.is (c.in_ok-test.ensures.items ∙ c.as_bytes.ensures)
    (rw c.in-Some-NoTest.field-0-is at (rw c.in-Some-NoTest.is at c.in_ok-make.ensures.made))
    (rw c.in-Some-NoTest.is at c.in_ok-make.ensures.counted)
