-- The numbers of the desk's own refusals.
use Rattle.std.specs.Prelude.{ℕ, Option, Some, None}
use Rattle.desk.specs.declared.fault.DeskFault.{DeskFault}
use Rattle.desk.specs.declared.fault.DeskFault.TheVariants as faults

-- K1: the desk is closed; K2: no viewer is left
abbrev pub desk_fault_number : {F : Type 0} → DeskFault F → Option ℕ
desk_fault_number faults.Closed = Some 1
desk_fault_number faults.NoSeat = Some 2
desk_fault_number (faults.Edit fault) = None
desk_fault_number (faults.Claim fault) = None
desk_fault_number faults.OutOfMemory = None
