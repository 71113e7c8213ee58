use Rattle.std.proofs.Common.{◌≡◌, take}
use Rattle.watch_run.specs.Edits.{model_paths, test_paths}
use Rattle.watch_run.specs.Boards.{KnowsItsTexts, standing}
use Rattle.watch_run.specs.Runs.{HasLineAnswers, AreIn}
use Rattle.watch_run.proofs.answers.Run.take_bytes.Given as goal

-- no write failed so far, and the lines so far were answered
abbrev pub invariant-loop-byte : goal.invariant-loop-byte
invariant-loop-byte g l =
    let calls = g.K.ByteSink.failed_calls in
    let contents = g.K.ByteSink.contents in
    let counts = g.A.Author.counts in
    let readings = g.V.Versions.readings in
    record {
      ready : KnowsItsTexts g.A.Author.seen counts l.self.watched;
      paths : l.self.paths ≡ l.initial.self.paths;
      writes : calls l.sink ≡ calls l.initial.sink;
      answers : HasLineAnswers (model_paths l.initial.self.paths) (test_paths l.initial.self.paths)
          (AreIn l.initial.line.items (take l.byte-index l.bytes) l.line.items)
          (standing counts l.initial.self) (standing counts l.self)
          (readings l.initial.versions) (readings l.versions) (contents l.initial.sink)
          (contents l.sink);
    }
