use Rattle.std.proofs.Common.{ℕ, ◌<◌, ◌≤◌, ◌≡◌, List, Option, min, length, get_or, ap, subst, ◌∙◌, arith}
use Rattle.std.proofs.lemmas.List.{get_or_default}
use Rattle.bench_values.proofs.Making.{check_more, check_none, all_checks}
use Rattle.bench_values.proofs.run.checks_among.Goals as goal
use Rattle.bench_values.proofs.run.checks_among.Goals.{in-Some, in-None+in_ok-push-in-None}

pub loop-at-preserved : goal.loop-at-preserved
loop-at-preserved c =
    let names : c.loop-at.at < length c.args.flags.now = omega (arith, c.loop-at-test.true, c.min-at-end.ensures) in
    let answers : c.loop-at.at < length c.args.answers.now = omega (arith, c.loop-at-test.true, c.min-at-end.ensures) in
    elim c.match-flags-at.branch [
      | in-Some w ↦ check_none c.args.flags.now c.args.answers.now c.loop-at.at names answers
          c.loop-at.checks.items c.match-flags-at.checks.items w.in-Some.field-0
          (subst (λ (n : Option (List ℕ)). n ≡ get_or c.args.flags.now c.loop-at.at n) w.in-Some.is
          c.index-flags-at.is) c.loop-at.invariant
          (ap (λ v. v.items) w.checks-is)
      | in-None+in_ok-push-in-None w ↦ check_more c.args.flags.now c.args.answers.now c.loop-at.at
          names answers _ c.loop-at.checks.items c.match-flags-at.checks.items
          (subst (λ (n : Option (List ℕ)). n ≡ get_or c.args.flags.now c.loop-at.at n) w.in-None.is
          c.index-flags-at.is)
          (get_or_default c.args.answers.now c.loop-at.at _ _ answers) c.loop-at.invariant
          (ap (λ v. v.items) w.checks-is ∙ w.in_ok-push-in-None.ensures.items)
    ]

pub returns : goal.returns
returns c =
    let past : min (length c.args.flags.now) (length c.args.answers.now) ≤ c.loop-at.at = omega (arith, c.loop-at-test.false, c.min-at-end.ensures) in
    all_checks c.args.flags.now c.args.answers.now c.loop-at.at c.loop-at.checks.items past
    c.loop-at.invariant
