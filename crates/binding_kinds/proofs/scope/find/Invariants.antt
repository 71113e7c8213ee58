use Rattle.std.proofs.Common.{◌≡◌, ◌≤◌, reverse, map, take, length}
use Rattle.binding_kinds.specs.Value.{entry_of}
use Rattle.binding_kinds.specs.Kinds.{found}
use Rattle.binding_kinds.proofs.scope.find.Given as goal

abbrev pub invariant-names : goal.invariant-names
invariant-names l =
    (l.end ≤ length l.entries)
    × (found (reverse (map entry_of (take l.end l.entries))) l.name
    ≡ found (reverse (map entry_of l.entries)) l.name)

abbrev pub decreases-names : goal.decreases-names
decreases-names l = l.end
