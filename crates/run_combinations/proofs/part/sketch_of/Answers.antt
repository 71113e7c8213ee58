use Rattle.std.proofs.Common.{ℕ, ◌≡◌, List, take, length, ap, subst, arith, ◌∙◌}
use Rattle.std.proofs.Math.Seq.{take-length}
use Rattle.thread_runs.specs.declared.instruction.Event as run
use Rattle.run_combinations.specs.Keys.{AreKeys, bit_of}
use Rattle.store_orders.specs.Events.{thread_events}
use Rattle.run_combinations.proofs.part.sketch_of.Goals as goal

pub returns-clause-keys : goal.returns-clause-keys
returns-clause-keys c = λ thread.
    let n : c.loop-event.event-index ≡ length c.events_in-event-items.result.now = omega arith in
    subst
    (λ (es : List run.Event). AreKeys (bit_of c.args.values.now) (thread_events thread es)
    c.loop-event.loads c.loop-event.stores)
    (ap (λ (k : ℕ). take k c.events_in-event-items.result.now) n
    ∙ take-length c.events_in-event-items.result.now ∙ c.events_in-event-items.ensures)
    (c.loop-event.invariant thread)
