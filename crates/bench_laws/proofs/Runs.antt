-- The texts of the bench are sound after any list of events.
use Rattle.std.proofs.Common.{List}
use Rattle.memo_core.specs.Run.{MemoEvent, IsNewBench, IsLawfulMeaning, MemoRun, counting_on, state_in}
use Rattle.memo_core.proofs.Exact.{HasRanks}
use Rattle.memo_core.proofs.Runs.{RightState, run_right}
use Rattle.bench_values.specs.Givens.{GivenContent}
use Rattle.bench_values.specs.Values.{NodeContent}
use Rattle.bench_nodes.specs.Nodes.{rank}
use Rattle.bench_texts.specs.declared.edit.Edit.{Edit}
use Rattle.cells.specs.CellLaws.{SettledCellIsFromScratch}
use Rattle.cells.proofs.CellRuns.{from_scratch_after}
use Rattle.bench_instance.specs.Lemmas.CellProofs.{cells_solved}
use Rattle.bench_instance.specs.StampedTexts.{AreSoundTexts, IsNodeThere, stamped_net}
use Rattle.bench_instance.specs.Lemmas.StampedLaws.{since_itself, since_edited, valid_edited, given_stays, texts_are_sound, used_there, used_closed, ranks_fall}
use Rattle.bench_laws.specs.Live.{live_meaning, live_cells}
use Rattle.bench_laws.specs.There.{LiveState}

pub kept : IsLawfulMeaning live_meaning
kept = record {
  valid_edited = valid_edited;
  since_same = since_itself;
  since_edited = since_edited;
  given_stays = given_stays;
}

-- no node stands on itself, and the inputs of used nodes are used
pub has_ranks : HasRanks live_meaning (λ t. rank t.parts.table)
has_ranks = record { falls = ranks_fall; used_closed = used_closed }

-- they are sound, and what is kept of computations is right
pub right_after : (events : List (MemoEvent Edit NodeContent GivenContent)) (start end : LiveState)
    → IsNewBench AreSoundTexts stamped_net start → MemoRun live_meaning start events end
    → AreSoundTexts end.texts × RightState (counting_on live_meaning end.texts) (state_in live_meaning end)
right_after events start end s run =
    run_right live_meaning kept events start end
    (s.valid, record { each = rw s.no_memos tt; parts = s.parts }) run

pub sound_after : (events : List (MemoEvent Edit NodeContent GivenContent)) (start end : LiveState)
    → IsNewBench AreSoundTexts stamped_net start → MemoRun live_meaning start events end → AreSoundTexts end.texts
sound_after events start end s run = (right_after events start end s run).0

-- a cell that is settled carries what evaluating from nothing gives
pub settled_from_scratch : SettledCellIsFromScratch live_meaning live_cells
settled_from_scratch =
    from_scratch_after live_meaning live_cells IsNodeThere
    (record { kept = kept; sound = texts_are_sound; there = used_there; closed = used_closed })
    cells_solved
