use Rattle.std.proofs.Common.{◌≡◌, Some, drop}
use Rattle.session_script.specs.Words.{word_number, number_from}
use Rattle.session_script.proofs.words.number_of.Given as goal

-- the number so far goes on with the other digits
abbrev pub invariant-loop-byte : goal.invariant-loop-byte
invariant-loop-byte l = word_number l.word ≡ number_from (Some l.number) (drop l.byte-index l.word)
