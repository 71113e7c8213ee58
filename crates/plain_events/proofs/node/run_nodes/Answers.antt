use Rattle.std.proofs.Common.{◌≡◌, ℕ, List, ◌∷◌, [], map, ap, subst, ◌∙◌, arith}
use Rattle.std.proofs.lemmas.List.{map-append}
use Rattle.meaning.specs.Sets.{IsListOf}
use Rattle.plain_events.specs.declared.event.Event.{Event}
use Rattle.plain_events.specs.declared.event.Event.TheVariants.{Does}
use Rattle.plain_events.specs.Events.{event_as, DoesBelow}
use Rattle.plain_events.proofs.Standing.{does_begin, does_more}
use Rattle.plain_events.proofs.node.run_nodes.Goals as goal

pub loop-index-init : goal.loop-index-init
loop-index-init c =
    does_begin c.args.thread (map event_as c.new-nodes.result.items)
    (ap (λ (l : List Event). map event_as l) c.new-nodes.ensures.items)

pub loop-index-preserved : goal.loop-index-preserved
loop-index-preserved c =
    does_more c.args.thread c.loop-index.index (map event_as c.loop-index.nodes.items)
    (map event_as c.push.new.self.items)
    (ap (λ (l : List Event). map event_as l) c.in_ok-push.ensures.items
    ∙ map-append event_as c.loop-index.nodes.items (Does c.args.thread c.loop-index.index ∷ []))
    c.loop-index.invariant

pub returns : goal.returns
returns c =
    let same : c.loop-index.index ≡ c.args.count = omega (arith, c.loop-index-test.false, c.loop-index.auto.index-end) in
    subst (λ (n : ℕ). IsListOf (DoesBelow c.args.thread n) (map event_as c.loop-index.nodes.items))
    same c.loop-index.invariant
