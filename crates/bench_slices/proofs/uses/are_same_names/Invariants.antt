use Rattle.std.proofs.Common.{◌≡◌, ◌↔◌, map, length, drop}
use Rattle.bench_slices.specs.Slices.{bound_name}
use Rattle.bench_slices.proofs.uses.are_same_names.Given as goal

abbrev pub invariant-loop-this : goal.invariant-loop-this
invariant-loop-this l =
    (map (bound_name l.first) l.inputs ≡ map (bound_name l.second) l.others)
    ↔ (map (bound_name l.first) (drop (length l.yielded) l.inputs)
    ≡ map (bound_name l.second) (drop (length l.yielded) l.others))
