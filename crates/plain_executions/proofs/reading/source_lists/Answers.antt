use Rattle.std.proofs.Common.{List, Vec, [], ◌∷◌, map, ap, ◌∙◌}
use Rattle.std.specs.declared.alloc.Global.{Global}
use Rattle.std.proofs.lemmas.List.{map-append}
use Rattle.plain_events.specs.declared.event.Event as code
use Rattle.plain_events.specs.Events.{event_as}
use Rattle.plain_executions.specs.Executions.{event_lists_as}
use Rattle.text_values.specs.TestValue.{content_of}
use Rattle.meaning.specs.Sets.{IsListOf}
use Rattle.meaning.specs.Executions.{Event, MayRead}
use Rattle.plain_runs.specs.Runs.{run_as}
use Rattle.plain_events.specs.Events.{of_runs}
use Rattle.plain_executions.proofs.Pairing.{zipped_more}
use Rattle.plain_executions.proofs.reading.source_lists.Goals as goal

pub loop-load-preserved : goal.loop-load-preserved
loop-load-preserved c =
    zipped_more
    (λ (e : Event) (es : List Event). IsListOf (MayRead (content_of c.args.test.now) (of_runs (map run_as c.args.runs.now)) e) es)
    event_as c.args.loads.now c.loop-load.load-index _ (event_lists_as c.loop-load.lists.items)
    (event_lists_as c.push.new.self.items) (map event_as c.in_ok-stores.stores.items)
    c.loop-load-test.true c.loop-load.invariant c.in_ok-stores.ensures
    (ap (λ (l : List (Vec code.Event Global)). event_lists_as l) c.in_ok-push.ensures.items
    ∙ map-append (λ (v : Vec code.Event Global). map event_as v.items) c.loop-load.lists.items (c.in_ok-stores.stores ∷ []))
