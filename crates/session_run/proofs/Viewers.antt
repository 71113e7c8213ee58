-- What a viewer knows goes on from what it knew, and how a session tells the faults of its desk.
use Rattle.std.proofs.Common.{◌≡◌, ◌≢◌, false, true, List, sym, ◌∙◌}
use Rattle.std.specs.Prelude.{IsSome}
use mathlib.Core.List.{IsPrefix}
use Rattle.desk.specs.declared.answer.Settling.{Settling}
use Rattle.desk.specs.declared.answer.Settling.TheVariants.{Done, Waits, Refused}
use Rattle.desk.specs.Held.{TellsSettled}
use Rattle.desk_ledger.proofs.Growing.{prefix_same}
use Rattle.desk.specs.Numbers.{desk_fault_number}
use Rattle.desk.specs.declared.fault.DeskFault.{DeskFault}
use Rattle.desk.specs.declared.fault.DeskFault.TheVariants as desk_faults
use Rattle.bench_texts.specs.declared.fault.EditFault.{EditFault}
use Rattle.bench_texts.specs.declared.edit.Edit.{Edit}
use Rattle.board.specs.declared.operation.BoardOp.{BoardOp}
use Rattle.command_line.specs.declared.fault.SessionFault.{SessionFault}
use Rattle.command_line.specs.declared.fault.SessionFault.TheVariants as faults
use Rattle.session_run.specs.Faults.{fault_for}
use Rattle.session_run.specs.Untold.{IsUntold, IsPutOff, IsRefused, IsDisputed}

pub told_begins : {O : Type 0} (is_legal are_settled : List O → Type 0) (me me' : List O)
    (s : Settling) → TellsSettled is_legal are_settled me me' s → IsPrefix me me'
told_begins is_legal are_settled me me' Done told = told.0
told_begins is_legal are_settled me me' (Waits changes) told = prefix_same me me' told
told_begins is_legal are_settled me me' Refused told = prefix_same me me' told

-- K1 and K2 are told as want of memory
pub seat_fault : (fault : DeskFault EditFault) → IsSome (desk_fault_number fault)
    → fault_for fault ≢ faults.Shared
seat_fault (desk_faults.Edit fault) some e = let wrong : false ≡ true = some in absurd cc
seat_fault (desk_faults.Claim fault) some e = let wrong : false ≡ true = some in absurd cc
seat_fault desk_faults.OutOfMemory some e = let wrong : false ≡ true = some in absurd cc
seat_fault desk_faults.Closed some e = cc
seat_fault desk_faults.NoSeat some e = cc

-- an edit that is not told as want of memory is refused by a rule
pub disputed : (e : Edit) (seen : List BoardOp) (fault : SessionFault) → IsUntold e seen fault
    → fault ≡ faults.Shared → IsDisputed e seen
disputed e seen fault (IsPutOff number next has memory) shared =
    let wrong : faults.Memory ≡ faults.Shared = sym memory ∙ shared in absurd cc
disputed e seen fault (IsRefused (desk_faults.Edit refusal) refuses is) shared = (refusal, refuses)
disputed e seen fault (IsRefused (desk_faults.Claim refusal) refuses is) shared = absurd refuses
disputed e seen fault (IsRefused desk_faults.OutOfMemory refuses is) shared =
    let wrong : faults.Memory ≡ faults.Shared = sym is ∙ shared in absurd cc
disputed e seen fault (IsRefused desk_faults.Closed refuses is) shared =
    let wrong : faults.Memory ≡ faults.Shared = sym is ∙ shared in absurd cc
disputed e seen fault (IsRefused desk_faults.NoSeat refuses is) shared =
    let wrong : faults.Memory ≡ faults.Shared = sym is ∙ shared in absurd cc
