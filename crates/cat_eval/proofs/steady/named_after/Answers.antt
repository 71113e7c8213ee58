use Rattle.std.proofs.Common.{ℕ, ◌≡◌, ◌+◌, ◌-◌, subst, arith}
use Rattle.cat_machine.specs.Steady.{HasSame}
use Rattle.cat_eval.proofs.Repeating.{same_from}
use Rattle.cat_eval.proofs.steady.named_after.Goals as goal

pub returns-then-candidate-steady : goal.returns-then-candidate-steady
returns-then-candidate-steady c = λ held k low high index column at.
    let next = c.args.candidate in
    let here : next ≡ next + 1 - 1 = omega arith in
    subst (λ (n : ℕ). HasSame column.now n k) here (same_from column.now (next - 1) next k
    (held next (omega arith) c.if-candidate-steady.true index column at)
    (held k (omega (arith, low)) high index column at))
