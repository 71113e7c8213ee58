use Rattle.std.proofs.Common.{◌≡◌, [], reverse, take, drop}
use Rattle.std.specs.Prelude.{option_map}
use Rattle.fault_texts.specs.Search.{signed_fault_of, or_later, first_fault_in_parameters}
use Rattle.fault_texts.proofs.group.parameters_fault.Given as goal

abbrev pub invariant-loop-index : goal.invariant-loop-index
invariant-loop-index l =
    or_later (option_map signed_fault_of l.all) (first_fault_in_parameters
    (reverse (take l.index l.parameters)) (drop l.index l.parameters))
    ≡ first_fault_in_parameters [] l.parameters
