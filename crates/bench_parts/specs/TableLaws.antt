-- LAWS of the rows of tests and models after an edit: what `table_laws` states.
use Rattle.std.specs.Prelude.{⊤, ℕ, List, Option, Some, None}
use Rattle.text_values.specs.declared.test.Test.{Test}
use Rattle.binding_kinds.specs.declared.fault.ModelFault.{ModelFault}
use Rattle.bench_nodes.specs.declared.table.ModelRow.{ModelRow}
use Rattle.bench_nodes.specs.declared.table.TestRow.{TestRow}
use Rattle.bench_nodes.specs.Nodes.{stamp_in}
use Rattle.bench_parts.specs.Contents.{fault_part, test_part}
use Rattle.bench_parts.specs.Built.{IsModelRow, IsTestRow}
use Rattle.bench_parts.specs.declared.model_rows.HeldModel.{HeldModel}
use Rattle.bench_parts.specs.Models.{fault_by, fault_stamp_by, raised_model, IsModelRowOf}
use Rattle.bench_parts.specs.Stamps.{next_number, IsLaterNumber, IsPartNow}
use Rattle.bench_parts.specs.Tests.{TestEntry, held_by, stamp_by, IsRowOf, IsRaisedRow}

-- ---- tests

-- a test that was there had the stamps of edits up to the last
abbrev pub WasTestRow : ℕ → Option TestEntry → Type 0
WasTestRow last None = ⊤
WasTestRow last (Some e) = IsTestRow last e.row e.test

-- the row of a test after the edit of that number, over what it was before
pub record IsTestAfter (last number : ℕ) (before : Option TestEntry) (id : ℕ) (test : Test)
    (locations : List (List ℕ)) (new : TestRow) : Type 0 where
  pub later : IsLaterNumber last number
  pub was : WasTestRow last before
  pub row : TestRow
  pub made : IsRowOf (next_number last) before id test locations row
  pub raised : IsRaisedRow last number row new

abbrev pub TestPartsGoOn : Type 0
TestPartsGoOn =
    (last number id : ℕ) (before : Option TestEntry) (test : Test) (locations : List (List ℕ))
    (new : TestRow) → IsTestAfter last number before id test locations new
    → (part : ℕ)
    → IsPartNow (held_by before part) (stamp_by before part) number
    (test_part test locations part) (stamp_in new part)

-- ---- models

abbrev pub WasModelRow : ℕ → Option HeldModel → Type 0
WasModelRow last None = ⊤
WasModelRow last (Some h) = IsModelRow last h.row h.fault

-- the row of a model that is made for the edit of that number, over what it was before
pub record IsModelAfter (last number : ℕ) (before : Option HeldModel) (id : ℕ)
    (fault : Option ModelFault) (row : ModelRow) : Type 0 where
  pub later : IsLaterNumber last number
  pub was : WasModelRow last before
  pub made : IsModelRowOf (next_number last) before id fault row

abbrev pub FaultsGoOn : Type 0
FaultsGoOn =
    (last number id : ℕ) (before : Option HeldModel) (fault : Option ModelFault) (row : ModelRow)
    → IsModelAfter last number before id fault row
    → IsPartNow (fault_by before) (fault_stamp_by before) number (fault_part fault)
    (raised_model last number row).stamp
