use Rattle.bench_texts.specs.Held.{texts_of}
use Rattle.watch_run.proofs.Changing.{test_held, no_test_held}
use Rattle.watch_run.proofs.changes.holds_test.Goals as goal

pub returns-in-Some : goal.returns-in-Some
returns-in-Some c =
    test_held _ _ c.in-Some.parts c.is_empty.result
    (rw c.in-Some.is at c.in_ok-parts.ensures.parts) c.is_empty.ensures

pub returns-in-None : goal.returns-in-None
returns-in-None c = no_test_held (texts_of c.args.texts.now) _ (rw c.in-None.is at c.in_ok-parts.ensures.none)
