use Rattle.std.proofs.Common.{◌≡◌}
use Rattle.watch_run.specs.Counts.{with_jobs}
use Rattle.watch_run.specs.Boards.{KnowsItsTexts}
use Rattle.watch_run.proofs.watched.Watched.settled_lines.Given as goal

-- the viewer knows the texts, which are the same, and so many jobs were counted
abbrev pub invariant-loop : goal.invariant-loop
invariant-loop g l =
    let counts = g.A.Author.counts in
    record {
      ready : KnowsItsTexts g.A.Author.seen counts l.self;
      texts : l.self.texts ≡ l.initial.self.texts;
      names : l.self.names ≡ l.initial.self.names;
      counted : counts l.self.author ≡ with_jobs l.jobs (counts l.initial.self.author);
    }
