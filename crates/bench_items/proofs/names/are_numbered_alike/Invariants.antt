use Rattle.std.proofs.Common.{◌↔◌, drop}
use Rattle.std.specs.List.{AllByRecursion as Each}
use Rattle.bench_items.specs.Naming.{body_names, IsNumberedAlike}
use Rattle.bench_items.proofs.names.are_numbered_alike.Given as goal

abbrev pub invariant-loop-body : goal.invariant-loop-body
invariant-loop-body l =
    Each (IsNumberedAlike l.these l.those) (body_names l.bodies)
    ↔ Each (IsNumberedAlike l.these l.those) (body_names (drop l.body-index l.bodies))
