use Rattle.std.proofs.Common.{ℕ, ◌<◌, length, get_or, None, below_more, arith}
use Rattle.why_forbidden.specs.declared.checks.CheckValues.{CheckValues}
use Rattle.why_forbidden.specs.Checked.{Accepts}
use Rattle.why_forbidden.proofs.Refusing.{refused_at}
use Rattle.why_forbidden.proofs.checks.first_refusal.Goals as goal

pub returns-in-Some : goal.returns-in-Some
returns-in-Some c = record {
  within = omega arith;
  before = c.loop-index.invariant;
  refuses =
      refused_at c.args.checks.now c.loop-index.index c.args.candidate c.index-checks-index.result _
      (omega arith) c.index-checks-index.is (rw c.in-Some.is at c.in_ok-witness.ensures);
}

pub loop-index-preserved : goal.loop-index-preserved
loop-index-preserved c =
    let here = refused_at c.args.checks.now c.loop-index.index c.args.candidate c.index-checks-index.result None (omega arith) c.index-checks-index.is (rw c.in_default.is at c.in_ok-witness.ensures) in
    below_more
    (λ (j : ℕ). (d : CheckValues) → j < length c.args.checks.now
    → Accepts (get_or c.args.checks.now j d) c.args.candidate) c.loop-index.index
    c.loop-index.invariant
    (λ d lt. here d)

pub returns : goal.returns
returns c = λ j less d lt. c.loop-index.invariant j (omega arith) d lt
