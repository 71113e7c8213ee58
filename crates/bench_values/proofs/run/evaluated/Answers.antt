use Rattle.std.proofs.Common.{map}
use Rattle.outcome_states.specs.Kept.{of_raised}
use Rattle.bench_values.specs.Values.{answers_of}
use Rattle.bench_values.proofs.Making.{checks_named, flags_named, outcome_over}
use Rattle.bench_values.proofs.run.evaluated.Goals as goal

pub returns : goal.returns
returns c = λ over.
    let values = map (λ v. v.now) c.args.values.now in
    let parts = c.args.parts.now in
    outcome_over parts values c.args.space.now c.deref-5.result.now
    (map (λ b. b.now) c.deref-6.result.now) (of_raised c.deref-7.result.now) c.outcome.result
    over
    c.deref-5.ensures.value
    (checks_named parts.flags.items c.deref.result.now c.deref-6.result.now
    c.in_ok-checks.checks.items c.deref-2.result.now c.in_ok-answers.answers.items
    (answers_of values) c.deref-6.ensures.value c.in_ok-checks.ensures c.deref.ensures.value
    c.deref-2.ensures.value c.in_ok-answers.ensures)
    (flags_named parts.flags.items c.deref-3.result.now c.deref-7.result.now
    c.in_ok-flags.flags.items c.deref-4.result.now c.in_ok-answers.answers.items
    (answers_of values) c.deref-7.ensures.value c.in_ok-flags.ensures
    c.deref-3.ensures.value c.deref-4.ensures.value c.in_ok-answers.ensures)
    c.outcome.ensures.whole
