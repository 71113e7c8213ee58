use Rattle.std.proofs.Common.{◌≡◌, ◌++◌, map, drop}
use Rattle.why_forbidden.specs.Steps.{legs_to}
use Rattle.why_forbidden.specs.Views.{leg_of, start_of}
use Rattle.why_forbidden.proofs.telling.legs_to.Given as goal

abbrev pub invariant-loop-index : goal.invariant-loop-index
invariant-loop-index l =
    map leg_of l.legs.items ++ legs_to (map start_of (drop l.index l.starts)) l.end
    ≡ legs_to (map start_of l.starts) l.end
