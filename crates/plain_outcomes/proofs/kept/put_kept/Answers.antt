use Rattle.std.proofs.Common.{inl}
use Rattle.text_values.specs.ModelValues.{clauses_of}
use Rattle.text_values.specs.TestValue.{content_of}
use Rattle.meaning.specs.Evaluates.{MeetsFlag}
use Rattle.plain_executions.specs.Executions.{execution_as}
use Rattle.plain_outcomes.proofs.Keeping.{flags_added}
use Rattle.plain_outcomes.proofs.kept.put_kept.Goals as goal

pub returns : goal.returns
returns c =
    inl (
      c.in_ok-answers.ensures.kept.0 c.if-not-answers.false,
      record {
        last = c.in_ok-end.end;
        is_end = c.in_ok-end.ensures;
        ends = c.in_ok-push.ensures.items;
        raised = flags_added
            (λ i. MeetsFlag (content_of c.args.test.now) (clauses_of c.args.items.now) i (execution_as c.args.execution.now))
            c.args.kept.now.raised.items c.in_ok-answers.answers.flags.items c.deref.result.now c.extend_from_slice.new.self.items
            c.deref.ensures.value c.in_ok-extend_from_slice.ensures.items c.in_ok-answers.ensures.flags;
      },
    )
