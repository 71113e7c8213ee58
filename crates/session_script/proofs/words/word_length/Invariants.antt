use Rattle.std.proofs.Common.{◌≡◌, ℕ, ◌<◌, false, get_or}
use Rattle.session_script.specs.Words.{is_gap}
use Rattle.session_script.proofs.words.word_length.Given as goal

-- no gap stands before
abbrev pub invariant-loop-i : goal.invariant-loop-i
invariant-loop-i l = (k : ℕ) → k < l.i → is_gap (get_or l.bytes k 0) ≡ false
