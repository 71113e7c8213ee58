use Rattle.std.proofs.Common.{◌≡◌, drop}
use Rattle.watch_run.specs.Holding.{all_files, first_at}
use Rattle.watch_run.specs.Edits.{model_paths, test_paths}
use Rattle.watch_run.proofs.answers.watched_path.Given as goal

-- no file so far has the path
abbrev pub invariant-loop-index : goal.invariant-loop-index
invariant-loop-index l =
    let files = all_files (model_paths l.paths) (test_paths l.paths) in
    first_at files l.line ≡ first_at (drop l.index files) l.line
