use Rattle.std.proofs.Common.{map, ap, sym, subst}
use Rattle.text_values.specs.TestValue.{content_of}
use Rattle.meaning.specs.Executions as executions
use Rattle.plain_runs.specs.Runs.{run_as}
use Rattle.plain_events.specs.declared.event.Event.{Event}
use Rattle.plain_events.specs.Events.{event_as, IsActionOfEvent}
use Rattle.plain_events.proofs.action.action.Goals as goal

pub returns-in-Initial : goal.returns-in-Initial
returns-in-Initial c =
    subst
    (λ (e : executions.Event). IsActionOfEvent (content_of c.args.test.now) (map run_as c.args.runs.now) e c.initial_action.result)
    (sym (ap (λ (e : Event). event_as e) c.in-Initial.is)) c.initial_action.ensures

pub returns-in-Does : goal.returns-in-Does
returns-in-Does c =
    subst
    (λ (e : executions.Event). IsActionOfEvent (content_of c.args.test.now) (map run_as c.args.runs.now) e c.does_action.result)
    (sym (ap (λ (e : Event). event_as e) c.in-Does.is)) (c.does_action.ensures (content_of c.args.test.now))
