use Rattle.std.proofs.Common.{ℕ, List, length, map, ap, sym, ◌∙◌, ◌≤◌, subst}
use Rattle.std.proofs.lemmas.List.{map-append, length-map}
use Rattle.meaning.specs.Runs.{Instance}
use Rattle.plain_runs.specs.Runs.{run_as}
use Rattle.plain_runs.specs.Locations.{names_as}
use Rattle.plain_events.specs.declared.event.Event.{Event}
use Rattle.plain_events.specs.Events.{event_as}
use Rattle.plain_events.proofs.Doing.{run_at}
use Rattle.plain_events.proofs.Standing.{nodes_begin, nodes_more, nodes_all}
use Rattle.plain_events.proofs.node.nodes.Goals as goal

pub loop-thread-init : goal.loop-thread-init
loop-thread-init c =
    nodes_begin (names_as c.args.locations.now) (map run_as c.args.runs.now)
    (map event_as c.in_ok-nodes.nodes.items) c.requires c.in_ok-nodes.ensures

pub loop-thread-preserved : goal.loop-thread-preserved
loop-thread-preserved c =
    nodes_more (names_as c.args.locations.now) (map run_as c.args.runs.now) c.loop-thread.thread
    c.instance_count.result (map event_as c.loop-thread.nodes.items)
    (map event_as c.in_ok-more.more.items) (map event_as c.append.new.self.items)
    (c.instance_count.ensures
    ∙ ap (λ (l : List Instance). length l) (sym (run_at c.args.runs.now c.loop-thread.thread c.index-runs-thread.result c.loop-thread-test.true c.index-runs-thread.is)))
    c.loop-thread.invariant c.in_ok-more.ensures
    (ap (λ (l : List Event). map event_as l) c.in_ok-append.ensures.items
    ∙ map-append event_as c.loop-thread.nodes.items c.in_ok-more.more.items)

pub returns : goal.returns
returns c =
    nodes_all (names_as c.args.locations.now) (map run_as c.args.runs.now) c.loop-thread.thread
    (map event_as c.loop-thread.nodes.items)
    (subst (λ (n : ℕ). n ≤ c.loop-thread.thread) (sym (length-map c.args.runs.now run_as)) c.loop-thread-test.false)
    c.loop-thread.invariant
