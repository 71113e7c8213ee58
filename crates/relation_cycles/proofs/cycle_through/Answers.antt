use Rattle.relation_cycles.proofs.Steps.{shortest_through}
use Rattle.relation_cycles.proofs.cycle_through.Goals as goal

pub returns-then-contains : goal.returns-then-contains
returns-then-contains c =
    shortest_through _ c.args.event c.loop-steps.steps _ c.in_ok-cycle.ensures.path
    c.in_ok-cycle.ensures.short c.in_ok-cycle.ensures.first c.loop-steps.invariant
