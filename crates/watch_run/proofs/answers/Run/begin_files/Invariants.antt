use Rattle.std.proofs.Common.{◌≡◌, take}
use Rattle.watch_run.specs.Holding.{all_files}
use Rattle.watch_run.specs.Edits.{model_paths, test_paths}
use Rattle.watch_run.specs.Boards.{KnowsItsTexts, standing}
use Rattle.watch_run.specs.Runs.{HasBegunFiles}
use Rattle.watch_run.proofs.answers.Run.begin_files.Given as goal

-- the files so far were begun
abbrev pub invariant-loop-index : goal.invariant-loop-index
invariant-loop-index g l =
    let counts = g.A.Author.counts in
    let readings = g.V.Versions.readings in
    let files = all_files (model_paths l.paths) (test_paths l.paths) in
    record {
      ready : KnowsItsTexts g.A.Author.seen counts l.self.watched;
      paths : l.self.paths ≡ l.initial.self.paths;
      begun : HasBegunFiles (take l.index files) (standing counts l.initial.self) (standing counts l.self)
          (readings l.initial.versions) (readings l.versions) l.text.items;
    }
