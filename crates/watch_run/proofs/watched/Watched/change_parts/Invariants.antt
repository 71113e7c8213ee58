use Rattle.std.proofs.Common.{◌≡◌, Some}
use Rattle.text_values.specs.TestValue.{content_of}
use Rattle.bench_texts.specs.Held.{texts_of}
use Rattle.session_answers.specs.Cells.{test_named}
use Rattle.watch_run.specs.Edits.{AreSameBut}
use Rattle.watch_run.specs.Counts.{HasEdits}
use Rattle.watch_run.specs.Edited.{ArePartsPut}
use Rattle.watch_run.specs.Boards.{KnowsItsTexts, IsUnedited}
use Rattle.watch_run.proofs.watched.Watched.change_parts.Given as goal

-- the viewer knows the texts, of which all are the same but the test of this name, of which so many
-- parts were put; and all are the same where it is this one already
abbrev pub invariant-loop-part : goal.invariant-loop-part
invariant-loop-part g l =
    let counts = g.A.Author.counts in
    record {
      ready : KnowsItsTexts g.A.Author.seen counts l.self;
      made : ArePartsPut l.new.name l.part-index (texts_of l.initial.self.texts)
          (texts_of l.self.texts);
      counted : HasEdits l.part-index (counts l.initial.self.author) (counts l.self.author);
      kept : test_named (texts_of l.initial.self.texts) l.new.name ≡ Some (content_of l.new)
          → IsUnedited counts l.initial.self l.self;
      jobs : (counts l.self.author).jobs ≡ (counts l.initial.self.author).jobs;
      tests : AreSameBut l.new.name (texts_of l.initial.self.texts).tests (texts_of l.self.texts).tests;
      models : (texts_of l.self.texts).models ≡ (texts_of l.initial.self.texts).models;
      names : l.self.names ≡ l.initial.self.names;
    }
