use Rattle.std.proofs.Common.{◌≡◌, ◌++◌, map, drop}
use Rattle.why_walks.specs.Walks.{runs_of}
use Rattle.why_forbidden.specs.Steps.{starts_through}
use Rattle.why_forbidden.specs.Views.{start_of}
use Rattle.why_forbidden.proofs.telling.starts_through.Given as goal

abbrev pub invariant-loop-index : goal.invariant-loop-index
invariant-loop-index l =
    map start_of l.starts.items
    ++ starts_through (drop l.index l.factors) (drop l.index (runs_of l.runs))
    ≡ starts_through l.factors (runs_of l.runs)
