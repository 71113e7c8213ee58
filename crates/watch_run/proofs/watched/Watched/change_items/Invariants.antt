use Rattle.std.proofs.Common.{◌≡◌, take}
use Rattle.text_values.specs.ModelValues.{clauses_of}
use Rattle.bench_texts.specs.Held.{texts_of}
use Rattle.watch_run.specs.Holding.{HoldsItems, IsSameButModel}
use Rattle.watch_run.specs.Counts.{HasEdits}
use Rattle.watch_run.specs.Edited.{AreChangesMade}
use Rattle.watch_run.specs.Boards.{KnowsItsTexts, IsUnedited}
use Rattle.watch_run.proofs.watched.Watched.change_items.Given as goal

-- the viewer knows the texts, of which all are the same but the model of this name, of which the
-- changes so far were made; and all are the same where it has the items already
abbrev pub invariant-loop-change : goal.invariant-loop-change
invariant-loop-change g l =
    let counts = g.A.Author.counts in
    record {
      ready : KnowsItsTexts g.A.Author.seen counts l.self;
      made : AreChangesMade l.name (clauses_of l.new.items.items) (take l.change-index l.change-items)
          (texts_of l.initial.self.texts) (texts_of l.self.texts);
      counted : HasEdits l.change-index (counts l.initial.self.author) (counts l.self.author);
      others : IsSameButModel l.name (texts_of l.initial.self.texts) (texts_of l.self.texts);
      kept : HoldsItems l.name (clauses_of l.new.items.items) (texts_of l.initial.self.texts)
          → IsUnedited counts l.initial.self l.self;
      jobs : (counts l.self.author).jobs ≡ (counts l.initial.self.author).jobs;
      names : l.self.names ≡ l.initial.self.names;
    }
