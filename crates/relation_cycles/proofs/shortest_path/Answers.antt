use Rattle.relation_cycles.proofs.Steps.{shortest_path}
use Rattle.relation_cycles.proofs.shortest_path.Goals as goal

pub returns-then-contains : goal.returns-then-contains
returns-then-contains c =
    shortest_path _ c.args.from c.args.to c.loop-steps.steps _ c.in_ok-path.ensures.path
    c.in_ok-path.ensures.short c.in_ok-path.ensures.first c.loop-steps.invariant
