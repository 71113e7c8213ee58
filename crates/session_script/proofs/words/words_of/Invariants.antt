use Rattle.std.proofs.Common.{◌≡◌, ◌-◌, ◌++◌, length, drop}
use Rattle.session_script.specs.Words.{words_of}
use Rattle.session_script.proofs.words.words_of.Given as goal

-- the words so far, and those of the rest
abbrev pub invariant-loop-start : goal.invariant-loop-start
invariant-loop-start l = words_of l.line ≡ l.words.items ++ words_of (drop l.start l.line)

abbrev pub decreases-loop-start : goal.decreases-loop-start
decreases-loop-start l = length l.line - l.start
