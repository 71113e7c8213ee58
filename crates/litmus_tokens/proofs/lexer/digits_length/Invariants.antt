use Rattle.std.proofs.Common.{◌≡◌, ℕ, ◌<◌, false, get_or}
use Rattle.litmus_tokens.specs.Lexer.{ends_digits}
use Rattle.litmus_tokens.proofs.lexer.digits_length.Given as goal

abbrev pub invariant-loop-i : goal.invariant-loop-i
invariant-loop-i l = (k : ℕ) → k < l.i → ends_digits (get_or l.text k 0) ≡ false
