use Rattle.std.proofs.Common.{◌≡◌, ℕ, ◌<◌, false, get_or}
use Rattle.litmus_tokens.specs.Lexer.{is_not_ascii}
use Rattle.litmus_tokens.proofs.lexer.ascii_length.Given as goal

abbrev pub invariant-loop-i : goal.invariant-loop-i
invariant-loop-i l = (k : ℕ) → k < l.i → is_not_ascii (get_or l.text k 0) ≡ false
