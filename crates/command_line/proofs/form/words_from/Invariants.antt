use Rattle.std.proofs.Common.{◌≡◌, ◌++◌, drop}
use Rattle.command_line.specs.Words.{borrowed_words}
use Rattle.command_line.proofs.form.words_from.Given as goal

-- the words before are found
abbrev pub invariant-loop-i : goal.invariant-loop-i
invariant-loop-i l =
    borrowed_words l.found.items ++ drop l.i (borrowed_words l.words)
    ≡ drop l.index (borrowed_words l.words)
