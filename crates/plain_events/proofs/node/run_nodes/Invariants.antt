use Rattle.std.proofs.Common.{map}
use Rattle.meaning.specs.Sets.{IsListOf}
use Rattle.plain_events.specs.Events.{event_as, DoesBelow}
use Rattle.plain_events.proofs.node.run_nodes.Given as goal

abbrev pub invariant-loop-index : goal.invariant-loop-index
invariant-loop-index l = IsListOf (DoesBelow l.thread l.index) (map event_as l.nodes.items)
