use Rattle.std.proofs.Common.{◌↔◌, drop}
use Rattle.std.specs.List.{AllByRecursion as Each}
use Rattle.bench_items.specs.Naming.{body_names, IsInHistory}
use Rattle.bench_items.proofs.names.are_named.Given as goal

abbrev pub invariant-loop-body : goal.invariant-loop-body
invariant-loop-body l =
    Each (IsInHistory l.history) (body_names l.bodies)
    ↔ Each (IsInHistory l.history) (body_names (drop l.body-index l.bodies))
