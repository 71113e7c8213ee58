use Rattle.std.proofs.Common.{◌≡◌, reverse, map, drop}
use Rattle.binding_kinds.specs.Value.{entry_of, bound_value_of}
use Rattle.binding_kinds.specs.Faults.{with_own}
use Rattle.binding_graph.proofs.declare.declare_own.Given as goal

abbrev pub invariant-loop-position : goal.invariant-loop-position
invariant-loop-position l =
    with_own (reverse (map entry_of l.fn.entries.items)) l.item 0 (map bound_value_of l.group)
    ≡ with_own (reverse (map entry_of l.entries.items)) l.item l.position
    (map bound_value_of (drop l.position l.group))
