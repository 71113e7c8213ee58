use Rattle.std.proofs.Common.{◌≡◌, drop}
use Rattle.litmus_tokens.specs.Lexer.{significant}
use Rattle.litmus_tokens.proofs.lexer.significant.Given as goal

abbrev pub invariant-loop-i : goal.invariant-loop-i
invariant-loop-i l = significant l.digits ≡ significant (drop l.i l.digits)
