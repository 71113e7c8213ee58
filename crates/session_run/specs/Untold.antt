-- Why the viewer of a session was not told of its edit, and when that is `Shared`. Read after
-- Faults.
use Rattle.std.specs.Prelude.{◌≡◌, ◌≢◌, ℕ, List, [], leb}
use Rattle.bench_texts.specs.declared.edit.Edit.{Edit}
use Rattle.bench_texts.specs.declared.fault.EditFault.{EditFault}
use Rattle.bench_texts.specs.Edits.{edit_of, RefusesEdit}
use Rattle.bench_texts.specs.Held.{texts_of}
use Rattle.board.specs.declared.operation.BoardOp.{BoardOp}
use Rattle.board.specs.Histories.{IsHistory}
use Rattle.board.specs.Legal.{last_number}
use Rattle.memo_engine.specs.declared.graph.TheConstants.{LAST}
use Rattle.bench_instance.specs.declared.stamped_texts.StampedTexts.{StampedTexts}
use Rattle.bench_instance.specs.StampedTexts.{AreSoundTexts}
use Rattle.bench_instance.specs.Texts.{AreAfter, IsWantOfMemory}
use Rattle.desk.specs.declared.fault.DeskFault.{DeskFault}
use Rattle.desk.specs.declared.fault.DeskFault.TheVariants as desk_faults
use Rattle.desk.specs.Held.{IsRefusedAfter, IsRefusedBy}
use Rattle.session_views.specs.Knowing.{HasOwnEdit}
use Rattle.command_line.specs.declared.fault.SessionFault.{SessionFault}
use Rattle.command_line.specs.declared.fault.SessionFault.TheVariants as faults
use Rattle.session_run.specs.Faults.{fault_for}

-- the texts refuse the edit for this fault, where so many numbers of edits are taken
abbrev pub AreRefusing : Edit → StampedTexts → (taken : ℕ) → EditFault → Type 0
AreRefusing e texts taken fault =
    RefusesEdit (texts_of texts.texts) (leb LAST taken) (edit_of e) fault

-- the desk refuses the edit of who has seen these operations
abbrev pub IsRefusedEdit : Edit → (seen : List BoardOp) → DeskFault EditFault → Type 0
IsRefusedEdit e seen =
    IsRefusedBy (IsRefusedAfter IsHistory AreSoundTexts AreAfter last_number (AreRefusing e) seen)
    IsWantOfMemory (seen ≢ [])

-- The desk puts the edit off, which is published with what is published next: this is told as want
-- of memory. Or it refuses the edit, and the fault is the one for its refusal.
pub data IsUntold (e : Edit) (seen : List BoardOp) (fault : SessionFault) : Type 0 where
  IsPutOff : (number : ℕ) (next : List BoardOp) → HasOwnEdit e number seen next
      → fault ≡ faults.Memory → IsUntold e seen fault
  IsRefused : (refusal : DeskFault EditFault) → IsRefusedEdit e seen refusal
      → fault ≡ fault_for refusal → IsUntold e seen fault

-- an edit that the own texts accept ends a session as shared because the texts of the desk's bench
-- refuse it by a rule
abbrev pub IsDisputed : Edit → (seen : List BoardOp) → Type 0
IsDisputed e seen = (fault : EditFault) × IsRefusedEdit e seen (desk_faults.Edit fault)
