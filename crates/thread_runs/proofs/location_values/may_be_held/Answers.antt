use Rattle.std.proofs.Common.{arith, sym, ◌∙◌}
use Rattle.thread_runs.proofs.Telling.{never_held}
use Rattle.thread_runs.proofs.location_values.may_be_held.Goals as goal

pub returns : goal.returns
returns c = λ e.
    never_held c.args.program.now c.args.location c.args.initial c.args.value c.requires
    (sym c.is_same.ensures ∙ c.if-is_same.false)
    (λ t lt. c.loop-thread.invariant t (omega (
      arith,
      lt,
      c.loop-thread-test.false,
      c.len-thread-end.ensures,
    )))
