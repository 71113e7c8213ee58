-- The numbers of the refusals.
use Rattle.std.specs.Prelude.{ℕ, Option, Some, None}
use Rattle.bench_texts.specs.declared.fault.EditFault.{EditFault}
use Rattle.bench_texts.specs.declared.fault.EditFault.TheVariants as faults

-- of a refusal by the bench, from 1 to 6: that of a text has its own, and want of memory has none
abbrev pub edit_fault_number : EditFault → Option ℕ
edit_fault_number faults.NoTest = Some 1
edit_fault_number faults.NoModel = Some 2
edit_fault_number faults.NoThread = Some 3
edit_fault_number faults.NoItem = Some 4
edit_fault_number faults.Full = Some 5
edit_fault_number faults.Spent = Some 6
edit_fault_number (faults.Test f) = None
edit_fault_number (faults.Model f) = None
edit_fault_number (faults.OutOfMemory f) = None
