use Rattle.std.proofs.Common.{◌≡◌, drop}
use Rattle.bench_items.specs.Naming.{body_names, with_names}
use Rattle.bench_items.proofs.names.put_names.Given as goal

abbrev pub invariant-loop-body : goal.invariant-loop-body
invariant-loop-body l =
    with_names l.history.items (body_names (drop l.body-index l.bodies))
    ≡ with_names l.initial.history.items (body_names l.bodies)
