use Rattle.std.proofs.Common.{◌≡◌, take}
use Rattle.bench_texts.specs.Held.{texts_of}
use Rattle.session_views.specs.Progress.{capped, settled_in_table}
use Rattle.session_views.proofs.progress.settled_in_table.Given as goal

abbrev pub invariant-loop-name : goal.invariant-loop-name
invariant-loop-name l =
    l.settled ≡ capped (settled_in_table (texts_of l.texts) l.board (take l.name-index l.names))
