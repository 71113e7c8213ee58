-- The stamps of models after an edit.
use Rattle.std.proofs.Common.{ℕ, ◌≤◌, ◌≡◌, Option, Some, None, ap, ◌∙◌, arith}
use Rattle.binding_kinds.specs.declared.fault.ModelFault.{ModelFault}
use Rattle.bench_nodes.specs.declared.table.ModelRow.{ModelRow}
use Rattle.bench_parts.specs.Built.{IsStamp, IsModelRow}
use Rattle.bench_parts.specs.Contents.{PartContent, OfFault, fault_part}
use Rattle.bench_parts.specs.Stamps.{raised}
use Rattle.bench_parts.proofs.Stamping.{raised_low, stamp_now}
use Rattle.bench_parts.specs.declared.model_rows.HeldModel.{HeldModel}
use Rattle.bench_parts.specs.TableLaws.{WasModelRow, IsModelAfter}
use Rattle.bench_parts.specs.Models.{fault_by, fault_stamp_by, raised_model}

pub fault_low : (last : ℕ) (before : Option HeldModel) → WasModelRow last before
    → fault_stamp_by before ≤ last
fault_low last None was = omega arith
fault_low last (Some h) was = by_fault h.fault was
  where
    by_fault : (f : Option ModelFault) → IsModelRow last h.row f → h.row.stamp ≤ last
    by_fault None e = let z : h.row.stamp ≡ 0 = e in omega arith
    by_fault (Some f) e = e.1

fault_stamped : (last : ℕ) (row : ModelRow) (f : Option ModelFault) (now : PartContent)
    → IsModelRow last row f → fault_part f ≡ Some now → IsStamp last row.stamp
fault_stamped last row None now was e = cc
fault_stamped last row (Some f) now was e = was

held_fault : (last : ℕ) (before : Option HeldModel) (now : PartContent) → WasModelRow last before
    → fault_by before ≡ Some now → IsStamp last (fault_stamp_by before)
held_fault last None now was e = cc
held_fault last (Some h) now was e = fault_stamped last h.row h.fault now was e

pub model_stamped : (last number id : ℕ) (before : Option HeldModel) (fault : Option ModelFault)
    (row : ModelRow) → IsModelAfter last number before id fault row
    → IsModelRow number (raised_model last number row) fault
model_stamped last number id before None row a =
    ap (raised last number) a.made.stamp ∙ raised_low last number 0 (omega arith)
model_stamped last number id before (Some f) row a =
    stamp_now last number (fault_stamp_by before) row.stamp (fault_by before) (OfFault f) a.later
    (held_fault last before (OfFault f) a.was) a.made.stamp
