-- The tests of a running bench write numbers of 32 bits, whatever edits made them.
use Rattle.std.specs.Prelude.{List, Bool, All}
use Rattle.bench_texts.specs.BenchTexts.{BenchTexts}
use Rattle.bench_texts.specs.Edits.{Edit, Applies}
use Rattle.board.specs.declared.operation.BoardOp.{BoardOp}
use Rattle.board.specs.Histories.{AreEditsMade}
use Rattle.board.specs.Legal.{texts_after}
use Rattle.board.specs.Results.{ShowsRightCells}
use Rattle.meaning_laws.specs.Words.{IsTestOfWords}
use Rattle.meaning_outcomes.specs.Outcomes.{FromScratchIsMeant}
use Rattle.meaning_edits.specs.Boards.{AreTestsOfWords, ShowsMeantCells}

-- The tests of the texts write numbers of 32 bits.
abbrev pub AreTextsOfWords : BenchTexts → Type 0
AreTextsOfWords t = All IsTestOfWords t.tests

-- An accepted edit leaves it so: what it puts is read from a text.
abbrev pub EditsKeepWords : Type 0
EditsKeepWords =
    (t new : BenchTexts) (spent : Bool) (e : Edit) → AreTextsOfWords t → Applies t spent e new
    → AreTextsOfWords new

-- So it is after all operations whose edits the texts make.
abbrev pub HistoriesAreOfWords : Type 0
HistoriesAreOfWords = (ops : List BoardOp) → AreEditsMade ops → AreTestsOfWords (texts_after ops)

-- Then what evaluating one of its tests from nothing gives is what the test says,
abbrev pub TestsAreMeantAfter : Type 0
TestsAreMeantAfter =
    (ops : List BoardOp) → AreEditsMade ops → All FromScratchIsMeant (texts_after ops).tests

-- and each cell that is right shows what its test says under its model.
abbrev pub HistoriesAreMeant : Type 0
HistoriesAreMeant = (ops : List BoardOp) → AreEditsMade ops → ShowsRightCells ops → ShowsMeantCells ops
