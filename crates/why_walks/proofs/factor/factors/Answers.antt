use Rattle.std.proofs.Common.{ℕ, ◌≡◌, drop, subst, arith}
use Rattle.why_walks.specs.Factors.{parts_in}
use Rattle.why_walks.specs.Scanning.{parts_from}
use Rattle.why_walks.proofs.Scanned.{factors_are}
use Rattle.why_walks.proofs.factor.factors.Goals as goal

pub returns : goal.returns
returns c =
    let none : c.back.left ≡ 0 = omega arith in
    let read = subst (λ (n : ℕ). parts_in c.back.factors.items ≡ parts_from (drop n c.args.steps.now)) none c.back.invariant.2 in
    rw c.reverse.ensures.items (factors_are c.args.steps.now c.back.factors.items read)
