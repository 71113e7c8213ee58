use Rattle.std.proofs.Common.{◌≡◌, ◌∙◌, List, ap, sym, length, arith, rules, tests}
use Rattle.candidate_spaces.specs.Space.{registers_at}
use Rattle.candidate_spaces.proofs.Spaces.{ends_counted, no_more_ends}
use Rattle.candidate_spaces.proofs.same.are_same_ends.Goals as goal

pub returns-then-threads-min : goal.returns-then-threads-min
returns-then-threads-min c = (
  λ t. search (rules, tests),
  λ e.
      let same : length (registers_at c.args.first.now c.args.first_runs.now) ≡ length (registers_at c.args.second.now c.args.second_runs.now) = ap (λ (l : List _). length l) e in
      absurd (c.if-threads-min.true (c.min-threads.ensures
      ∙ sym (ends_counted c.args.first.now c.args.first_runs.now) ∙ same
      ∙ ends_counted c.args.second.now c.args.second_runs.now ∙ sym c.min.ensures)),
)

pub returns : goal.returns
returns c = (
  λ t.
      c.loop-thread.invariant.1
      (no_more_ends c.args.first.now c.args.first_runs.now c.loop-thread.thread
      (omega (arith, c.min-threads.ensures, c.loop-thread-test.false))
      ∙ sym (no_more_ends c.args.second.now c.args.second_runs.now c.loop-thread.thread
      (omega (
        arith,
        c.min-threads.ensures,
        c.min.ensures,
        c.if-threads-min.false,
        c.loop-thread-test.false,
      )))),
  λ e. search (rules, tests),
)
