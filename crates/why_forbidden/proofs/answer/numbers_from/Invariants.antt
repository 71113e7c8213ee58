use Rattle.std.proofs.Common.{◌≡◌, ◌++◌, ◌-◌}
use Rattle.why_forbidden.specs.Told.{numbers_from}
use Rattle.why_forbidden.proofs.answer.numbers_from.Given as goal

abbrev pub invariant-loop-number : goal.invariant-loop-number
invariant-loop-number l =
    l.numbers.items ++ numbers_from l.number (l.end - l.number)
    ≡ numbers_from l.fn.first (l.end - l.fn.first)
