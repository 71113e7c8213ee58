use Rattle.std.proofs.Common.{◌≡◌, map, take}
use Rattle.bench_items.specs.Naming.{body_names, number_in_history}
use Rattle.bench_items.proofs.names.numbers_of.Given as goal

abbrev pub invariant-loop-body : goal.invariant-loop-body
invariant-loop-body l =
    l.numbers.items ≡ map (number_in_history l.history) (body_names (take l.body-index l.bodies))
