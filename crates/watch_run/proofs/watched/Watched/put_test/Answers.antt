use Rattle.std.proofs.Common.{sym, ◌∙◌}
use Rattle.std.proofs.lemmas.Bool.{false≢true}
use Rattle.text_values.specs.TestValue.{content_of}
use Rattle.bench_texts.specs.Held.{texts_of}
use Rattle.watch_run.proofs.Edited.{put_by_parts, put_as_test}
use Rattle.watch_run.proofs.Taking.{put_held, put_whole}
use Rattle.watch_run.proofs.watched.Watched.put_test.Goals as goal

pub returns-then-branch-clause-tests : goal.returns-then-branch-clause-tests
returns-then-branch-clause-tests g c =
    put_held c.args.new.now.name _ _ (content_of c.args.new.now) c.in_ok-change_parts.ensures.tests
    (c.in_ok-holds_test.ensures.0 c.if-branch.true)

pub returns-in-None-clause-tests : goal.returns-in-None-clause-tests
returns-in-None-clause-tests g c =
    put_whole (texts_of c.args.self.now.texts) (texts_of c.change_parts.new.self.texts)
    (texts_of c.make.new.self.texts) c.args.text.items (content_of c.args.new.now)
    c.requires.only c.in_ok-change_parts.ensures.tests
    (rw c.in-None.is at c.in_ok-make.ensures.made)

pub returns-then-branch-clause-edits : goal.returns-then-branch-clause-edits
returns-then-branch-clause-edits g c =
    put_by_parts (content_of c.args.new.now) _ _ _ _ _ c.in_ok-change_parts.ensures.edits
    (c.in_ok-holds_test.ensures.0 c.if-branch.true)

pub returns-in-None-clause-edits : goal.returns-in-None-clause-edits
returns-in-None-clause-edits g c =
    put_as_test (content_of c.args.new.now) _ _ _ _ _ _ _ c.in_ok-change_parts.ensures.edits
    (λ held. false≢true (sym c.if-branch.false ∙ c.in_ok-holds_test.ensures.1 held))
    (rw c.in-None.is at c.in_ok-make.ensures.made) (rw c.in-None.is at c.in_ok-make.ensures.counted)
