use Rattle.std.proofs.Common.{◌≡◌}
use Rattle.bench_texts.specs.Held.{texts_of}
use Rattle.session_views.specs.Knowing.{KnowsTexts}
use Rattle.session_run.proofs.asking.ask.Given as goal

-- the texts stay, and the session stays ready
abbrev pub invariant-loop : goal.invariant-loop
invariant-loop g l =
    (goal.iterator-loop g).can_next l.iterator' × (goal.iterator-loop g).is_finite l.iterator'
    × (l.session.texts ≡ l.initial.session.texts)
    × KnowsTexts l.session.viewer l.session.made (texts_of l.session.texts)
