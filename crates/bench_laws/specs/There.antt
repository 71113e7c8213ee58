-- Which cells are there: those whose test and model the texts of the bench have. Read it after
-- Live, and Results of `board`.
use Rattle.std.specs.Prelude.{◌↔◌, ℕ, List}
use Rattle.memo_core.specs.Run.{Bench, MemoEvent, MemoRun, IsNewBench}
use Rattle.bench_values.specs.Givens.{GivenContent}
use Rattle.bench_values.specs.Values.{NodeContent}
use Rattle.bench_texts.specs.declared.edit.Edit.{Edit}
use Rattle.outcome_states.specs.declared.answer.Outcome.{Outcome}
use Rattle.board.specs.Legal.{TestsAndModels, tests_and_models}
use Rattle.board.specs.Results.{LacksOne, HasBoth, IsResultIn}
use Rattle.cells.specs.declared.shown.Shown.{Shown}
use Rattle.cells.specs.declared.shown.Shown.TheVariants.{Settled, Open, NoCell}
use Rattle.cells.specs.Cells.{IsCellShown}
use Rattle.bench_instance.specs.declared.stamped_texts.StampedTexts.{StampedTexts}
use Rattle.bench_instance.specs.StampedTexts.{AreSoundTexts, stamped_net}
use Rattle.bench_laws.specs.Live.{live_meaning, live_cells}

-- the bench: its texts, what is kept of computations, what is out, and how many numbers are taken
abbrev pub LiveState : Type 0
LiveState = Bench StampedTexts NodeContent

-- the tests and the models that the bench holds
abbrev pub texts_on : LiveState → TestsAndModels
texts_on b = tests_and_models b.texts.texts

-- it holds of the bench after any list of events
abbrev pub HoldsAfterEvents : (LiveState → Type 0) → Type 0
HoldsAfterEvents holds =
    (events : List (MemoEvent Edit NodeContent GivenContent)) (start end : LiveState)
    → IsNewBench AreSoundTexts stamped_net start → MemoRun live_meaning start events end → holds end

-- no cell is shown of a test and a model just where the texts lack one of the two
abbrev pub HasJustItsCells : LiveState → Type 0
HasJustItsCells b =
    (test model : List ℕ)
    → IsCellShown stamped_net live_cells b test model NoCell ↔ LacksOne (texts_on b) test model

-- What is shown is right for these texts: no cell where they lack the test or the model, open where
-- they have both, and an outcome is theirs.
abbrev pub IsRightShown : TestsAndModels → (test model : List ℕ) → Shown Outcome → Type 0
IsRightShown h test model (Settled o) = IsResultIn h test model o.now
IsRightShown h test model Open = HasBoth h test model
IsRightShown h test model NoCell = LacksOne h test model

-- all that is shown is right for the texts of the bench
abbrev pub ShowsRight : LiveState → Type 0
ShowsRight b =
    (test model : List ℕ) (shown : Shown Outcome)
    → IsCellShown stamped_net live_cells b test model shown
    → IsRightShown (texts_on b) test model shown
