-- The fault of a space that a domain hands on.
use Rattle.ppc_lowering.specs.declared.fault.DomainFault.{DomainFault}
use Rattle.ppc_lowering.specs.declared.fault.DomainFault.TheVariants as domain_faults
use Rattle.candidate_spaces.specs.declared.fault.SpaceFault.{SpaceFault}
use Rattle.candidate_spaces.specs.declared.fault.SpaceFault.TheVariants.{Refused, OutOfMemory}

abbrev pub space_fault_of : DomainFault → SpaceFault
space_fault_of (domain_faults.Refused r) = Refused r
space_fault_of (domain_faults.OutOfMemory e) = OutOfMemory e
