-- The faults of a session that come of its desk, or of want of memory.
use Rattle.bench_texts.specs.declared.fault.EditFault.{EditFault}
use Rattle.desk.specs.declared.fault.DeskFault.{DeskFault}
use Rattle.desk.specs.declared.fault.DeskFault.TheVariants as desk_faults
use Rattle.command_line.specs.declared.fault.SessionFault.{SessionFault}
use Rattle.command_line.specs.declared.fault.SessionFault.TheVariants as faults

-- the fault of a session for each fault of its desk: the desk is shared where it refuses an edit or
-- has no number for a claim
abbrev pub fault_for : DeskFault EditFault → SessionFault
fault_for (desk_faults.Edit fault) = faults.Shared
fault_for (desk_faults.Claim fault) = faults.Shared
fault_for desk_faults.OutOfMemory = faults.Memory
fault_for desk_faults.Closed = faults.Memory
fault_for desk_faults.NoSeat = faults.Memory

-- a fault that is of memory or of sharing, and not of reading or writing
abbrev pub IsOwnFault : SessionFault → Type 0
IsOwnFault faults.Memory = Unit {0}
IsOwnFault faults.Shared = Unit {0}
IsOwnFault faults.Read = ⊥
IsOwnFault faults.Write = ⊥
