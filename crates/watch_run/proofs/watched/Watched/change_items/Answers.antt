use Rattle.std.proofs.Common.{refl, ◌∙◌}
use Rattle.watch_run.specs.Edited.{NoChange}
use Rattle.watch_run.proofs.Changing.{changes_none}
use Rattle.watch_run.proofs.Edited.{none_counted, one_counted, change_made, changes_end, changes_all, no_items}
use Rattle.watch_run.proofs.Taking.{alone_same, alone_again}
use Rattle.watch_run.proofs.watched.Watched.change_items.Goals as goal

pub returns-in-None-clause-others : goal.returns-in-None-clause-others
returns-in-None-clause-others g c = alone_same _ _ _ refl

pub returns-then-not-accepted-clause-others : goal.returns-then-not-accepted-clause-others
returns-then-not-accepted-clause-others g c =
    alone_again _ _ _ _ c.loop-change.invariant.others c.in_ok-accepted.ensures.others

pub loop-change-init : goal.loop-change-init
loop-change-init g c = record {
  ready = c.requires.ready;
  made = NoChange _;
  counted = none_counted _;
  others = alone_same _ _ _ refl;
  kept = λ holds. record { texts = refl; counted = refl };
  jobs = refl;
  names = refl;
}

pub loop-change-preserved : goal.loop-change-preserved
loop-change-preserved g c = record {
  ready = c.in_ok-accepted.ensures.ready;
  made =
      change_made _ _ _ c.loop-change.change-index _ _ _ _ c.loop-change-test.true
      c.loop-change.invariant.made
      (rw c.if-not-accepted.false at c.in_ok-accepted.ensures.tried);
  counted =
      one_counted _ _ _ _ c.loop-change.invariant.counted
      (rw c.if-not-accepted.false at c.in_ok-accepted.ensures.counted);
  others = alone_again _ _ _ _ c.loop-change.invariant.others c.in_ok-accepted.ensures.others;
  kept = λ holds.
      absurd (changes_none _ _ _ _ _ _ (rw c.in-Some.is at c.in_ok-changes.ensures.changes) holds
      c.deref-change-items.ensures.value c.loop-change-test.true);
  jobs = c.in_ok-accepted.ensures.jobs ∙ c.loop-change.invariant.jobs;
  names = c.in_ok-accepted.ensures.names ∙ c.loop-change.invariant.names;
}

pub returns-in-None-clause-edits : goal.returns-in-None-clause-edits
returns-in-None-clause-edits g c =
    no_items _ _ _ _ (rw c.in-None.is at c.in_ok-changes.ensures.none)

pub returns-then-not-accepted-clause-edits : goal.returns-then-not-accepted-clause-edits
returns-then-not-accepted-clause-edits g c =
    changes_end _ _ _ _ c.loop-change.change-index _ _ _ _ _ _
    (rw c.in-Some.is at c.in_ok-changes.ensures.changes) c.deref-change-items.ensures.value
    c.loop-change.auto.change-index-end c.loop-change.invariant.made c.loop-change.invariant.counted
    (rw c.if-not-accepted.true at c.in_ok-accepted.ensures.tried)
    (rw c.if-not-accepted.true at c.in_ok-accepted.ensures.counted)

pub returns-clause-edits : goal.returns-clause-edits
returns-clause-edits g c =
    changes_all _ _ _ _ c.loop-change.change-index _ _ _ _
    (rw c.in-Some.is at c.in_ok-changes.ensures.changes) c.deref-change-items.ensures.value
    c.loop-change.auto.change-index-end c.loop-change.invariant.made c.loop-change.invariant.counted
