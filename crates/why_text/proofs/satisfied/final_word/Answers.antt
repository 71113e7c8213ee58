use Rattle.std.proofs.Common.{arith}
use Rattle.std.proofs.lemmas.Grind.{common_steps}
use Rattle.thread_runs.specs.declared.value.Value.TheVariants.{NoValue}
use Rattle.outcome_states.specs.Final.{value_stored_at}
use Rattle.why_text.proofs.Words.{word_more}
use Rattle.why_text.proofs.satisfied.final_word.Goals as goal

pub loop-event-preserved : goal.loop-event-preserved
loop-event-preserved c =
    let more = word_more (value_stored_at c.args.execution.now.events.items c.args.location) NoValue c.deref-event-items.result.now c.loop-event.event-index c.loop-event-test.true in
    grind (arith, common_steps, more)
