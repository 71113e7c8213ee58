use Rattle.std.proofs.Common.{◌≡◌, drop}
use Rattle.litmus_tokens.specs.Words.{are_printable}
use Rattle.litmus_tokens.proofs.word.are_printable.Given as goal

abbrev pub invariant-loop-byte : goal.invariant-loop-byte
invariant-loop-byte l = are_printable l.bytes ≡ are_printable (drop l.byte-index l.bytes)
