use Rattle.std.proofs.Common.{◌≡◌, reverse, take, drop, []}
use Rattle.binding_kinds.specs.Verdict.{of_parameters}
use Rattle.binding_kinds.proofs.judging.parameter_fault.Given as goal

abbrev pub invariant-loop-index : goal.invariant-loop-index
invariant-loop-index l =
    of_parameters [] l.parameters
    ≡ of_parameters (reverse (take l.index l.parameters)) (drop l.index l.parameters)
