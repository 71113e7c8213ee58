use Rattle.std.proofs.Common.{◌≡◌, List, reverse, map, drop}
use Rattle.binding_kinds.specs.Value.{Naming, Bound, entry_of}
use Rattle.binding_kinds.specs.Senses.{Sense}
use Rattle.binding_kinds.specs.Faults.{with_all}
use Rattle.binding_graph.specs.Readings.{AreNamed}
use Rattle.binding_graph.proofs.declare.declare_all.Given as goal

abbrev pub invariant-loop-position : goal.invariant-loop-position
invariant-loop-position l =
    (senses : List Sense) (outer : List Naming) (bounds : List Bound)
    → AreNamed senses outer bounds l.bodies →
    with_all senses outer (reverse (map entry_of l.fn.entries.items)) l.item 0 bounds
    ≡ with_all senses outer (reverse (map entry_of l.entries.items)) l.item l.position
    (drop l.position bounds)
