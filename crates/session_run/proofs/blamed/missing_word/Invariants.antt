use Rattle.std.proofs.Common.{◌≡◌, drop}
use Rattle.bench_texts.specs.Held.{texts_of}
use Rattle.session_run.specs.Blamed.{missing_word}
use Rattle.session_run.proofs.blamed.missing_word.Given as goal

-- the first of the names is the first of those that are left
abbrev pub invariant-loop-name : goal.invariant-loop-name
invariant-loop-name l =
    missing_word (texts_of l.texts) (drop l.name-index l.names)
    ≡ missing_word (texts_of l.texts) l.names
