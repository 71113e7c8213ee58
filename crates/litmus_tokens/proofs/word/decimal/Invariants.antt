use Rattle.std.proofs.Common.{◌≡◌, ◌≤◌, min, drop}
use Rattle.litmus_tokens.specs.Words.{decimal, decimal_from}
use Rattle.litmus_tokens.proofs.word.decimal.Given as goal

abbrev pub invariant-loop-digit : goal.invariant-loop-digit
invariant-loop-digit l =
    record {
      fits : l.n ≤ 18446744073709551615;
      same : min (decimal l.digits) 18446744073709551615
          ≡ min (decimal_from l.n (drop l.digit-index l.digits)) 18446744073709551615;
    }
