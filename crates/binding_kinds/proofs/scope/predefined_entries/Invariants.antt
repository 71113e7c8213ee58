use Rattle.std.proofs.Common.{◌≡◌, map, take}
use Rattle.binding_kinds.specs.Value.{entry_of}
use Rattle.binding_kinds.specs.Outermost.{naming_of}
use Rattle.binding_kinds.proofs.scope.predefined_entries.Given as goal

abbrev pub invariant-loop-one : goal.invariant-loop-one
invariant-loop-one l = map entry_of l.entries.items ≡ map naming_of (take l.one-index l.names)
