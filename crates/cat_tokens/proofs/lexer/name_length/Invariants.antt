use Rattle.std.proofs.Common.{◌≡◌, ℕ, ◌<◌, false, get_or}
use Rattle.cat_tokens.specs.Lexer.{ends_name}
use Rattle.cat_tokens.proofs.lexer.name_length.Given as goal

abbrev pub invariant-loop-i : goal.invariant-loop-i
invariant-loop-i l = (k : ℕ) → k < l.i → ends_name (get_or l.text k 0) ≡ false
