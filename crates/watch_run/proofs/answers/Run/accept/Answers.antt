use Rattle.std.proofs.Common.{length, refl, ap}
use Rattle.watch_run.specs.declared.watched.Paths.{Paths}
use Rattle.watch_run.proofs.Gaining.{noted_taken, noted_refused}
use Rattle.watch_run.proofs.answers.Run.accept.Goals as goal

pub returns-in_ok-put_refused-in-Some-clause-noted : goal.returns-in_ok-put_refused-in-Some-clause-noted
returns-in_ok-put_refused-in-Some-clause-noted g c =
    let taken = rw c.in-Some.is at c.in_ok-fault.ensures.taken in
    let many = ap (λ (p : Paths). length p.models.now) c.in_ok-fault.ensures.paths in
    noted_refused _ _ _ _ _ _ _ _ _ c.in-Some.fault _ _ _ _ _ taken.0 taken.1 many
    c.in_ok-fault.ensures.lines c.in_ok-fault.ensures.jobs c.in_ok-put_refused-in-Some.ensures

pub returns-in-None-clause-noted : goal.returns-in-None-clause-noted
returns-in-None-clause-noted g c =
    let many = ap (λ (p : Paths). length p.models.now) c.in_ok-fault.ensures.paths in
    let taken = rw c.in-None.is at c.in_ok-fault.ensures.taken in
    let edits = rw c.in-None.is at c.in_ok-fault.ensures.edits in
    noted_taken _ _ _ _ _ _ _ _ _ _ _ _ _ _ _ (taken, (edits.0, edits.1)) many
    c.in_ok-fault.ensures.lines c.in_ok-fault.ensures.refused c.in_ok-fault.ensures.jobs refl
