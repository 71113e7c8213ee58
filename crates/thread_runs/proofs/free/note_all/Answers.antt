use Rattle.thread_runs.proofs.Adding.{added_none, added_after, some_none, some_more}
use Rattle.thread_runs.proofs.free.note_all.Goals as goal

pub loop-walk-init : goal.loop-walk-init
loop-walk-init c = record { rising = c.requires; added = added_none _ _ (some_none c.args.line) }

pub loop-walk-preserved : goal.loop-walk-preserved
loop-walk-preserved c = record {
  rising = c.note_one.ensures.set;
  added =
      added_after _ _ _ _ _ _ c.loop-walk.invariant.added c.in_ok-note_one.ensures.added
      (some_more c.args.line c.args.walks.now c.loop-walk.walk-index _ c.loop-walk-test.true);
}
