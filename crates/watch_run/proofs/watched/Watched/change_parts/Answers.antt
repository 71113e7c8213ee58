use Rattle.std.proofs.Common.{refl, inl, ◌∙◌}
use Rattle.bench_texts.specs.Held.{texts_of}
use Rattle.watch_run.specs.Edited.{NoPart, OnePart}
use Rattle.watch_run.proofs.Changing.{parts_none}
use Rattle.watch_run.proofs.Edited.{none_counted, one_counted, parts_end, parts_all, no_parts_changed}
use Rattle.watch_run.proofs.Taking.{but_again}
use Rattle.watch_run.proofs.watched.Watched.change_parts.Goals as goal

pub returns-then-not-accepted-clause-tests : goal.returns-then-not-accepted-clause-tests
returns-then-not-accepted-clause-tests g c =
    but_again _ _ _ _ c.loop-part.invariant.tests c.in_ok-accepted.ensures.tests

pub loop-part-preserved : goal.loop-part-preserved
loop-part-preserved g c = record {
  ready = c.in_ok-accepted.ensures.ready;
  made =
      OnePart _ _ _ _ c.loop-part.invariant.made
      (rw c.if-not-accepted.false at c.in_ok-accepted.ensures.tried);
  counted =
      one_counted _ _ _ _ c.loop-part.invariant.counted
      (rw c.if-not-accepted.false at c.in_ok-accepted.ensures.counted);
  kept = λ held.
      absurd (parts_none (texts_of c.args.self.now.texts) _ _ _ _
      (rw c.in-Some.is at c.in_ok-parts.ensures.parts) held c.deref-part-items.ensures.value
      c.loop-part-test.true);
  jobs = c.in_ok-accepted.ensures.jobs ∙ c.loop-part.invariant.jobs;
  tests = but_again _ _ _ _ c.loop-part.invariant.tests c.in_ok-accepted.ensures.tests;
  models = c.in_ok-accepted.ensures.models ∙ c.loop-part.invariant.models;
  names = c.in_ok-accepted.ensures.names ∙ c.loop-part.invariant.names;
}

pub loop-part-init : goal.loop-part-init
loop-part-init g c = record {
  ready = c.requires.ready;
  made = NoPart _;
  counted = none_counted _;
  kept = λ held. record { texts = refl; counted = refl };
  jobs = refl;
  tests = inl refl;
  models = refl;
  names = refl;
}

pub returns-in-None-clause-edits : goal.returns-in-None-clause-edits
returns-in-None-clause-edits g c =
    no_parts_changed _ (texts_of c.args.self.now.texts) _
    (rw c.in-None.is at c.in_ok-parts.ensures.none)

pub returns-then-not-accepted-clause-edits : goal.returns-then-not-accepted-clause-edits
returns-then-not-accepted-clause-edits g c =
    parts_end _ _ _ c.loop-part.part-index _ _ _ _ _ _
    (rw c.in-Some.is at c.in_ok-parts.ensures.parts) c.deref-part-items.ensures.value
    c.loop-part.auto.part-index-end c.loop-part.invariant.made c.loop-part.invariant.counted
    (rw c.if-not-accepted.true at c.in_ok-accepted.ensures.tried)
    (rw c.if-not-accepted.true at c.in_ok-accepted.ensures.counted)

pub returns-clause-edits : goal.returns-clause-edits
returns-clause-edits g c =
    parts_all _ _ _ c.loop-part.part-index _ _ _ _
    (rw c.in-Some.is at c.in_ok-parts.ensures.parts) c.deref-part-items.ensures.value
    c.loop-part.auto.part-index-end c.loop-part.invariant.made c.loop-part.invariant.counted
