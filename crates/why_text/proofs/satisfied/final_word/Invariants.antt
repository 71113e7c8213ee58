use Rattle.std.proofs.Common.{◌≡◌, take}
use Rattle.std.specs.List.{filter_map}
use Rattle.thread_runs.specs.declared.value.Value.TheVariants.{NoValue}
use Rattle.outcome_states.specs.Final.{last_or, value_stored_at}
use Rattle.why_text.proofs.satisfied.final_word.Given as goal

abbrev pub invariant-loop-event : goal.invariant-loop-event
invariant-loop-event l =
    l.word
    ≡ last_or NoValue (filter_map (value_stored_at l.execution.events.items l.location)
    (take l.event-index l.event-items))
