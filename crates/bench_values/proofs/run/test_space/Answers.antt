use Rattle.std.proofs.Common.{refl, subst}
use Rattle.candidates.specs.Listed.{IsSpaceFault}
use Rattle.bench_values.proofs.run.test_space.Goals as goal

pub returns-in-Ok : goal.returns-in-Ok
returns-in-Ok c =
    λ parts has. rw c.of_space.ensures (record {
      test = c.args.test.now;
      has_parts = has;
      space = c.in-Ok.found;
      lists = c.in-Ok.ensures.executions;
      content = refl;
    })

pub returns-in-Err-Refused : goal.returns-in-Err-Refused
returns-in-Err-Refused c = λ parts has.
    rw c.of_refusal.ensures (record {
      test = c.args.test.now;
      has_parts = has;
      of_test =
          subst (IsSpaceFault c.args.test.now) c.in-Err-Refused.field-0-is
          c.in-Err-Refused.ensures.refused;
    })
