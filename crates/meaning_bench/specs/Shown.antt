-- What a bench shows after any list of events. Read before it: Says, `Edits` of `bench_texts/specs`
-- (`Applies`, what an edit makes of texts) and `Slices` of `bench_slices/specs` (on what a cell
-- depends).
use Rattle.std.specs.Prelude.{◌≡◌, ℕ, List, [], ◌∷◌, Bool, false, IsTrue, Ok}
use Rattle.outcome_states.specs.declared.answer.Outcome.{Outcome}
use Rattle.outcome_texts.specs.Cells as shown_as
use Rattle.outcome_texts.specs.Cells.{Cell}
use Rattle.bench_texts.specs.declared.edit.Edit as code
use Rattle.bench_texts.specs.declared.fault.EditFault.{EditFault}
use Rattle.bench_texts.specs.declared.texts.Texts.{Texts}
use Rattle.bench_texts.specs.BenchTexts.{BenchTexts, no_texts}
use Rattle.bench_texts.specs.Edits.{edit_of, Applies}
use Rattle.bench_texts.specs.Held.{texts_of}
use Rattle.board.specs.Legal.{tests_and_models}
use Rattle.board.specs.Contents.{cell_named}
use Rattle.board.specs.Histories.{contents_after}
use Rattle.board.specs.Operations.{board_after}
use Rattle.board.specs.declared.operation.BoardOp.{BoardOp}
use Rattle.cells.specs.declared.events.Event.{Event}
use Rattle.cells.specs.declared.events.Event.TheVariants.{Edit}
use Rattle.cells.specs.declared.events.Reply.{Reply}
use Rattle.cells.specs.declared.events.Reply.TheVariants.{Edited}
use Rattle.cells.specs.declared.shown.Shown.{Shown}
use Rattle.cells.specs.declared.shown.Shown.TheVariants.{Settled, Open, NoCell}
use Rattle.bench_laws.specs.Openings.{slice_named}
use Rattle.meaning_bench.specs.Says.{SaysIn, IsCellBy}

-- ---- the texts after events

-- An edit that is accepted changes the texts as it says; whatever else happens leaves them.
abbrev pub ChangesTexts : BenchTexts → Event code.Edit → Reply EditFault → BenchTexts → Type 0
ChangesTexts old (Edit e) (Edited (Ok number)) new = Applies old false (edit_of e) new
ChangesTexts old event reply new = new ≡ old

-- the texts after these events with their replies, one after another
abbrev pub AreTextsAfter : BenchTexts → List (Event code.Edit) → List (Reply EditFault) → BenchTexts
    → Type 0
AreTextsAfter old [] [] new = new ≡ old
AreTextsAfter old (event ∷ events) (reply ∷ replies) new =
    (mid : BenchTexts) × ChangesTexts old event reply mid × AreTextsAfter mid events replies new
AreTextsAfter old events replies new = ⊥

-- ---- what is shown

-- the cell that is shown
abbrev pub cell_shown : Shown Outcome → Cell
cell_shown (Settled o) = shown_as.Settled o.now
cell_shown Open = shown_as.Open
cell_shown NoCell = shown_as.NoCell

-- After these events on a new bench, with these replies, the cell of a test and a model is asked
-- whether it shows this outcome. Where it does, the test says it under the model, by the texts after
-- the events.
pub record IsShownAfter (events : List (Event code.Edit)) (replies : List (Reply EditFault))
    (test model : List ℕ) (o : Outcome) (is_shown : Bool) : Type 0 where
  pub texts : BenchTexts
  pub after : AreTextsAfter no_texts events replies texts
  pub says : IsTrue is_shown → SaysIn texts test model o

-- ---- edits that do not reach a cell

-- The slice of the cell is what it was: the edit between these texts does not reach the cell.
abbrev pub LeavesSlice : (old new : Texts) → (test model : List ℕ) → Type 0
LeavesSlice old new test model =
    slice_named (tests_and_models new) test model ≡ slice_named (tests_and_models old) test model

-- An edit between these texts: whether a cell shows this outcome is asked before it and after it.
-- Each time the outcome that it shows is what the test says by the texts there, and where the edit
-- does not reach the cell, it goes on to show what it showed.
pub record IsShownAround (old new : Texts) (e : code.Edit) (test model : List ℕ) (o : Outcome)
    (before after : Bool) : Type 0 where
  pub applies : Applies (texts_of old) false (edit_of e) (texts_of new)
  pub said : IsTrue before → SaysIn (texts_of old) test model o
  pub says : IsTrue after → SaysIn (texts_of new) test model o
  pub kept : LeavesSlice old new test model → IsTrue before → IsTrue after

-- ---- boards

-- after these operations each cell of the board is right by the texts after them
abbrev pub ShowsCellsBy : List BoardOp → Type 0
ShowsCellsBy ops =
    (test model : List ℕ)
    → IsCellBy (contents_after ops) test model (cell_named (board_after ops) test model)
