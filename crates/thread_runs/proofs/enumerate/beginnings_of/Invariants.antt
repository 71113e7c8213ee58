use Rattle.std.proofs.Common.{◌≡◌, drop}
use Rattle.std.specs.List.{flat_map}
use Rattle.thread_runs.specs.AllRuns.{all_over, beginning_at}
use Rattle.thread_runs.proofs.enumerate.beginnings_of.Given as goal

abbrev pub invariant-loop-line : goal.invariant-loop-line
invariant-loop-line l =
    flat_map (all_over l.values l.held (drop l.line-index l.lines)) l.beginnings.items
    ≡ all_over l.values l.held l.lines (beginning_at l.fn.first)
