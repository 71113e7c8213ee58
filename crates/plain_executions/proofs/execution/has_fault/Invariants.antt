use Rattle.std.proofs.Common.{map, take}
use Rattle.plain_executions.specs.Executions.{execution_as, HasFaultAmong}
use Rattle.plain_executions.proofs.execution.has_fault.Given as goal

abbrev pub invariant-loop-execution : goal.invariant-loop-execution
invariant-loop-execution l =
    HasFaultAmong (take l.execution-index (map execution_as l.executions)) → ⊥
