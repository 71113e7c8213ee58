use Rattle.std.proofs.Common.{ℕ, ◌<◌, map, Some}
use Rattle.std.specs.Prelude.{slice_get, ◌≢◌}
use Rattle.watch_run.proofs.telling.index_of.Given as goal

-- the path is none of those so far
abbrev pub invariant-loop-index : goal.invariant-loop-index
invariant-loop-index l =
    (k : ℕ) → k < l.index → slice_get (map (λ p. p.now) l.paths) k ≢ Some l.path
