use Rattle.std.proofs.Common.{take}
use Rattle.why_walks.specs.Walks.{IsWalk, runs_of}
use Rattle.why_walks.proofs.Walking.{StillFirst, StillLeads}
use Rattle.why_walks.proofs.run.walk.Given as goal

abbrev pub invariant-loop-index : goal.invariant-loop-index
invariant-loop-index l =
    IsWalk (take l.index l.links) l.from (runs_of l.runs.items) l.at
    × StillLeads l.count l.links l.from l.to l.index l.at
    × StillFirst l.count l.links l.from l.to l.index l.at (runs_of l.runs.items)
