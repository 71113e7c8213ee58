use Rattle.std.proofs.Common.{◌≡◌, [], true}
use Rattle.session_script.specs.Calls.{HasCalled}
use Rattle.session_script.specs.Reading.{IsPaid}
use Rattle.watch_run.specs.Edits.{model_paths, test_paths}
use Rattle.watch_run.specs.Boards.{KnowsItsTexts, standing}
use Rattle.watch_run.specs.Runs.{HasLineAnswers, AreOfTurn}
use Rattle.watch_run.proofs.answers.Run.answer_lines.Given as goal

-- no read and no write failed so far, each turn gave a byte at least, and the lines so far were
-- answered
abbrev pub invariant-loop-turn : goal.invariant-loop-turn
invariant-loop-turn g l =
    let reads = g.S.ByteSource.failed_calls in
    let remaining = g.S.ByteSource.remaining in
    let calls = g.K.ByteSink.failed_calls in
    let contents = g.K.ByteSink.contents in
    let counts = g.A.Author.counts in
    let readings = g.V.Versions.readings in
    record {
      ready : KnowsItsTexts g.A.Author.seen counts l.self.watched;
      paths : l.self.paths ≡ l.initial.self.paths;
      reads : reads l.source ≡ reads l.initial.source;
      writes : calls l.sink ≡ calls l.initial.sink;
      called : HasCalled l._turn (g.S.ByteSource.calls l.initial.source)
          (g.S.ByteSource.calls l.source);
      paid : IsPaid l._turn 0 (remaining l.initial.source) (remaining l.source);
      answers : HasLineAnswers (model_paths l.initial.self.paths) (test_paths l.initial.self.paths)
          (AreOfTurn true [] l.line.items (remaining l.initial.source) (remaining l.source))
          (standing counts l.initial.self) (standing counts l.self)
          (readings l.initial.versions) (readings l.versions) (contents l.initial.sink)
          (contents l.sink);
    }
