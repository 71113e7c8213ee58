use Rattle.std.proofs.Common.{◌≡◌, ◌≤◌}
use Rattle.session_views.specs.Progress.{settled_among}
use Rattle.session_views.proofs.progress.settled_under.Given as goal

abbrev pub invariant-loop-test : goal.invariant-loop-test
invariant-loop-test l =
    (l.settled ≡ settled_among l.board l.model l.test) × (l.settled ≤ l.test)
