use Rattle.std.proofs.Common.{List, map, ap, sym, subst}
use Rattle.text_values.specs.TestValue.{content_of}
use Rattle.meaning.specs.Sets.{IsOnce}
use Rattle.meaning.specs.Names.{Name}
use Rattle.meaning.specs.Executions.{MayRead}
use Rattle.plain_runs.specs.Runs.{run_as}
use Rattle.plain_runs.specs.Locations.{names_as}
use Rattle.plain_events.specs.declared.event.Event.{Event}
use Rattle.plain_events.specs.Events.{event_as, of_runs}
use Rattle.plain_events.proofs.Doing.{source_node}
use Rattle.plain_events.proofs.Standing.{locations_once, acting_listed}
use Rattle.plain_events.proofs.node.sources.Goals as goal

pub nodes-requires : goal.nodes-requires
nodes-requires c =
    subst (λ (ns : List Name). IsOnce ns) (sym c.requires.locations)
    (locations_once (content_of c.args.test.now))

pub returns : goal.returns
returns c =
    acting_listed (content_of c.args.test.now) (map run_as c.args.runs.now)
    (MayRead (content_of c.args.test.now) (of_runs (map run_as c.args.runs.now)) (event_as c.args.load.now))
    (names_as c.args.locations.now) (map event_as c.in_ok-all.all.items)
    (map event_as c.deref.result.now) (map event_as c.in_ok-stores.stores.items) c.requires.locations
    (source_node (content_of c.args.test.now) (map run_as c.args.runs.now) (event_as c.args.load.now))
    c.in_ok-all.ensures (ap (λ (l : List Event). map event_as l) c.deref.ensures.value)
    c.in_ok-stores.ensures
