use Rattle.ppc_semantics.proofs.Rising.{initial_more, initial_end}
use Rattle.ppc_semantics.proofs.rounds.initial_values.Goals as goal

pub loop-value-preserved : goal.loop-value-preserved
loop-value-preserved c = record {
  set = c.add_value.ensures.set;
  exact =
      initial_more c.args.program.now.initial.items _ c.loop-value.value-index _ _ _
      c.deref-value-items.ensures.value c.loop-value-test.true c.loop-value.invariant.exact
      c.in_ok-add_value.ensures.added;
}

pub returns-clause-values : goal.returns-clause-values
returns-clause-values c =
    initial_end c.args.program.now.initial.items _ c.loop-value.value-index _
    c.deref-value-items.ensures.value c.loop-value-test.false c.loop-value.invariant.exact
