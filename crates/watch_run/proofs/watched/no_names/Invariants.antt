use Rattle.std.proofs.Common.{◌≡◌}
use Rattle.watch_run.specs.Holding.{no_names}
use Rattle.watch_run.proofs.watched.no_names.Given as goal

-- so many names so far
abbrev pub invariant-loop-file : goal.invariant-loop-file
invariant-loop-file l = l.names.items ≡ no_names l._file
