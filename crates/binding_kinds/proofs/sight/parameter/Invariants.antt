use Rattle.std.proofs.Common.{◌≡◌, reverse, take}
use Rattle.binding_kinds.specs.Meanings.{parameter_of}
use Rattle.binding_kinds.proofs.sight.parameter.Given as goal

abbrev pub invariant-loop-index : goal.invariant-loop-index
invariant-loop-index l = l.last ≡ parameter_of (reverse (take l.index l.parameters)) l.name
