use Rattle.std.proofs.Common.{ℕ, ◌++◌, ◌+◌, ◌-◌, ◌∙◌, List, ap, arith}
use Rattle.why_forbidden.specs.Told.{numbers_from}
use Rattle.why_forbidden.proofs.Stepping.{numbers_more}
use Rattle.why_forbidden.proofs.answer.numbers_from.Goals as goal

pub loop-number-preserved : goal.loop-number-preserved
loop-number-preserved c =
    let n : ℕ = c.loop-number.number in
    ap (λ (l : List ℕ). l ++ numbers_from (n + 1) (c.args.end - (n + 1))) c.in_ok-push.ensures.items
    ∙ numbers_more c.loop-number.numbers.items
    (numbers_from c.args.first (c.args.end - c.args.first)) n c.args.end (omega arith)
    c.loop-number.invariant
