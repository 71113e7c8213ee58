use Rattle.std.proofs.Common.{◌≡◌, ℕ, ◌<◌, false, get_or}
use Rattle.fault_texts.specs.Lines.{ends_word}
use Rattle.fault_texts.proofs.found.word_length.Given as goal

-- the bytes before belong to the word
abbrev pub invariant-loop-i : goal.invariant-loop-i
invariant-loop-i l = (k : ℕ) → k < l.i → ends_word (get_or l.rest k 0) ≡ false
