-- From the program of a test to the test.
use Rattle.std.proofs.Common.{List}
use Rattle.text_values.specs.declared.test.Test.{Test}
use Rattle.thread_runs.specs.declared.value.Value.{Value}
use Rattle.thread_runs.specs.declared.instruction.Program.{Program}
use Rattle.ppc_lowering.specs.declared.fault.DomainFault.{DomainFault}
use Rattle.ppc_lowering.specs.declared.fault.DomainFault.TheVariants.{Refused, OutOfMemory}
use Rattle.ppc_lowering.specs.Domain.{AreProper, IsDomain, LacksDomain}
use Rattle.ppc_lowering.specs.Lowering.{IsProgram, IsTestDomain, IsTestDomainFault}

pub test_domain : (t : Test) (p : Program) (V : List Value) → IsProgram t p → AreProper p
    → (AreProper p → IsDomain p V) → IsTestDomain t V
test_domain t p V is proper h = (p, is, h proper)

pub test_fault : (t : Test) (p : Program) (e : DomainFault) → IsProgram t p → AreProper p
    → (AreProper p → LacksDomain p e) → IsTestDomainFault t e
test_fault t p (Refused r) is proper h = (p, is, h proper)
test_fault t p (OutOfMemory e) is proper h = tt
