use Rattle.std.proofs.Common.{◌≡◌, drop}
use Rattle.litmus_tokens.specs.Words.{are_digits}
use Rattle.litmus_tokens.proofs.word.are_digits.Given as goal

abbrev pub invariant-loop-byte : goal.invariant-loop-byte
invariant-loop-byte l = are_digits l.bytes ≡ are_digits (drop l.byte-index l.bytes)
