use Rattle.std.proofs.Common.{◌≡◌, drop}
use Rattle.litmus_tokens.specs.Lexer.{raw_from}
use Rattle.litmus_tokens.proofs.lexer.raw_length.Given as goal

abbrev pub invariant-loop-i : goal.invariant-loop-i
invariant-loop-i l = raw_from 0 l.text ≡ raw_from l.i (drop l.i l.text)
