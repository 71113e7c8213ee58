use Rattle.std.proofs.Common.{◌≡◌, length, ◌-◌, ◌≤◌, drop}
use Rattle.litmus_tokens.specs.Lexer.{gap_from}
use Rattle.litmus_tokens.proofs.lexer.gap_length.Given as goal

abbrev pub invariant-loop-gap : goal.invariant-loop-gap
invariant-loop-gap l =
    record {
      within : l.gap ≤ length l.text;
      so_far : gap_from 0 0 l.text ≡ gap_from 0 l.gap (drop l.gap l.text);
    }

abbrev pub decreases-loop-gap : goal.decreases-loop-gap
decreases-loop-gap l = length l.text - l.gap
