use Rattle.std.proofs.Common.{◌≡◌, ◌↔◌, ℕ, List, Vec, Option, Some, None, slice_get, map, subst}
use Rattle.std.specs.declared.alloc.Global.{Global}
use Rattle.text_values.specs.TestValue.{content_of}
use Rattle.meaning.specs.Names.{Name}
use Rattle.meaning.specs.Executions as executions
use Rattle.plain_runs.specs.declared.run.Run.{Run}
use Rattle.plain_runs.specs.Runs.{run_as}
use Rattle.plain_events.specs.declared.event.Event.{Event}
use Rattle.plain_events.specs.Events.{event_as, IsActionOfEvent}
use Rattle.plain_executions.specs.Executions.{event_lists_as, execution_as}
use Rattle.plain_ends.specs.Ends.{IsLastAt, IsEventFound}
use Rattle.plain_ends.proofs.Finals.{some_last, none_last}
use Rattle.plain_ends.proofs.ending.final_value_at.Goals as goal

lasts_as : (found is : Option Event) (orders same : List (Vec Event Global)) (index : ℕ)
    → found ≡ is → orders ≡ same
    → ((e : executions.Event) → IsEventFound found e ↔ IsLastAt (event_lists_as orders) index e)
    → (e : executions.Event) → IsEventFound is e ↔ IsLastAt (event_lists_as same) index e
lasts_as found is orders same index at copied lasts e =
    subst (λ (o : Option Event). IsEventFound o e ↔ IsLastAt (event_lists_as same) index e) at
    (subst (λ (os : List (Vec Event Global)). IsEventFound found e ↔ IsLastAt (event_lists_as os) index e) copied
    (lasts e))

pub returns-in-Some : goal.returns-in-Some
returns-in-Some c =
    let t = content_of c.args.test.now in
    let x = execution_as c.args.execution.now in
    some_last t x c.args.location.now c.args.index
    (subst (λ (ns : List Name). slice_get ns c.args.index ≡ Some c.args.location.now) c.requires.locations c.requires.index)
    c.in-Some.last c.action-found.result c.stored_to.result
    (lasts_as c.last_at.result (Some c.in-Some.last) c.deref.result.now c.args.execution.now.coherence.items c.args.index
    c.in-Some.is c.deref.ensures.value c.last_at.ensures)
    (subst (λ (rs : List Run). IsActionOfEvent t (map run_as rs) (event_as c.in-Some.last) c.action-found.result) c.deref-in-Some.ensures.value c.action-found.ensures)
    c.stored_to.ensures

pub returns-in-None : goal.returns-in-None
returns-in-None c =
    let t = content_of c.args.test.now in
    let x = execution_as c.args.execution.now in
    none_last t x c.args.location.now c.args.index
    (subst (λ (ns : List Name). slice_get ns c.args.index ≡ Some c.args.location.now) c.requires.locations c.requires.index)
    (lasts_as c.last_at.result None c.deref.result.now c.args.execution.now.coherence.items c.args.index
    c.in-None.is c.deref.ensures.value c.last_at.ensures)
