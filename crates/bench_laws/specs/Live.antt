-- What the texts of the bench mean to the laws of cells.
use Rattle.std.specs.Prelude.{ℕ}
use Rattle.memo_core.specs.Laws.{meaning}
use Rattle.memo_core.specs.Run.{TextsMeaning}
use Rattle.bench_values.specs.Givens.{GivenContent}
use Rattle.bench_values.specs.Values.{NodeContent, outcome_in}
use Rattle.bench_texts.specs.declared.edit.Edit.{Edit}
use Rattle.bench_texts.specs.declared.fault.EditFault.{EditFault}
use Rattle.bench_texts.specs.Edits.{edit_of, RefusesEdit}
use Rattle.bench_texts.specs.Held.{texts_of}
use Rattle.outcome_states.specs.declared.answer.Outcome.{Outcome}
use Rattle.bench_parts.specs.States.{makes, keeps}
use Rattle.cells.specs.Cells.{Cells, cells}
use Rattle.cells.specs.Events.{Refusing}
use Rattle.bench_instance.specs.declared.stamped_texts.StampedTexts.{StampedTexts}
use Rattle.bench_instance.specs.StampedTexts.{AreSoundTexts, AreTextsSince, stamped_net, verdict_of}
use Rattle.bench_instance.specs.Edited.{IsEdited}
use Rattle.bench_instance.specs.StampedCells.{cell_from_scratch, ReachesCellNamed}

-- the number of the last edit of the texts
abbrev pub live_last : StampedTexts → ℕ
live_last t = t.parts.last

-- which texts are sound, what their nodes are, what an edit makes of them, and which was the last
abbrev pub live_meaning : TextsMeaning StampedTexts Edit NodeContent GivenContent
live_meaning =
    meaning stamped_net AreSoundTexts AreTextsSince makes (λ t n. keeps t.parts n) IsEdited
    live_last

-- the verdict of a cell, the outcome in a value, what evaluating the present texts from nothing
-- gives, and which edits reach a cell
abbrev pub live_cells : Cells StampedTexts Edit NodeContent Outcome
live_cells = cells verdict_of outcome_in cell_from_scratch ReachesCellNamed

-- why an edit is refused
abbrev pub live_refusing : Refusing StampedTexts Edit EditFault
live_refusing t e spent fault = RefusesEdit (texts_of t.texts) spent (edit_of e) fault
