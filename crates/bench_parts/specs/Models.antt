-- The row of a model after an edit.
use Rattle.std.specs.Prelude.{◌≡◌, ℕ, Option, Some, None}
use Rattle.binding_kinds.specs.declared.fault.ModelFault.{ModelFault}
use Rattle.bench_nodes.specs.declared.table.ModelRow.{ModelRow}
use Rattle.bench_parts.specs.Contents.{PartContent, fault_part}
use Rattle.bench_parts.specs.declared.model_rows.HeldModel.{HeldModel}
use Rattle.bench_parts.specs.Stamps.{IsStampOf, raised}

-- the fault that a model had, and its stamp
abbrev pub fault_by : Option HeldModel → Option PartContent
fault_by None = None
fault_by (Some h) = fault_part h.fault

abbrev pub fault_stamp_by : Option HeldModel → ℕ
fault_stamp_by None = 0
fault_stamp_by (Some h) = h.row.stamp

-- the row of a model of that number with that fault, if any, which was there as `before`
pub record IsModelRowOf (fresh : ℕ) (before : Option HeldModel) (id : ℕ) (fault : Option ModelFault)
    (row : ModelRow) : Type 0 where
  pub id_is : row.id ≡ id
  pub stamp : IsStampOf fresh (fault_by before) (fault_stamp_by before) (fault_part fault) row.stamp

-- the row under the number of the edit
abbrev pub raised_model : (last number : ℕ) → ModelRow → ModelRow
raised_model last number row = record { id = row.id; stamp = raised last number row.stamp }
