use Rattle.std.proofs.Common.{ℕ, ◌<◌, ◌≤◌, ◌≡◌, List, Option, min, length, get_or, ap, subst, ◌∙◌, arith}
use Rattle.std.proofs.lemmas.List.{get_or_default}
use Rattle.bench_values.proofs.Making.{flag_more, flag_none, all_flags}
use Rattle.bench_values.proofs.run.flags_among.Goals as goal
use Rattle.bench_values.proofs.run.flags_among.Goals.{in-Some+in_ok-push-in-Some, in-None}

pub loop-at-preserved : goal.loop-at-preserved
loop-at-preserved c =
    let names : c.loop-at.at < length c.args.flags.now = omega (arith, c.loop-at-test.true, c.min-at-end.ensures) in
    let answers : c.loop-at.at < length c.args.answers.now = omega (arith, c.loop-at-test.true, c.min-at-end.ensures) in
    elim c.match-flags-at.branch [
      | in-Some+in_ok-push-in-Some w ↦ flag_more c.args.flags.now c.args.answers.now c.loop-at.at
          names answers c.loop-at.raised.items c.match-flags-at.raised.items _
          (subst (λ (n : Option (List ℕ)). n ≡ get_or c.args.flags.now c.loop-at.at n) w.in-Some.is
          c.index-flags-at.is)
          (get_or_default c.args.answers.now c.loop-at.at _ _ answers) c.loop-at.invariant
          (ap (λ v. v.items) w.raised-is ∙ w.in_ok-push-in-Some.ensures.items)
      | in-None w ↦ flag_none c.args.flags.now c.args.answers.now c.loop-at.at names answers
          c.loop-at.raised.items c.match-flags-at.raised.items
          (subst (λ (n : Option (List ℕ)). n ≡ get_or c.args.flags.now c.loop-at.at n) w.in-None.is
          c.index-flags-at.is) c.loop-at.invariant
          (ap (λ v. v.items) w.raised-is)
    ]

pub returns : goal.returns
returns c =
    let past : min (length c.args.flags.now) (length c.args.answers.now) ≤ c.loop-at.at = omega (arith, c.loop-at-test.false, c.min-at-end.ensures) in
    all_flags c.args.flags.now c.args.answers.now c.loop-at.at c.loop-at.raised.items past
    c.loop-at.invariant
