-- What who made some edits knows of the operations that it has seen. Read this file first, then
-- Shown and Asked.
use Rattle.std.specs.Prelude.{◌≡◌, ℕ, ◌<◌, ◌≤◌, ◌-◌, ◌^◌, List, ◌++◌}
use Rattle.bench_texts.specs.BenchTexts.{BenchTexts}
use Rattle.bench_texts.specs.declared.edit.Edit.{Edit}
use Rattle.desk.specs.Held.{HasEdit}
use Rattle.board.specs.declared.operation.BoardOp.{BoardOp}
use Rattle.board.specs.Histories.{contents_after, IsHistory, IsEditAfter, IsSettle}
use Rattle.board.specs.Edits.{edits_in}

-- The operations that were seen, and all that go on from them, have at least so many edits; where
-- they have no more, these are the texts after them.
pub record KnowsOwn (seen : List BoardOp) (made : ℕ) (texts : BenchTexts) : Type 0 where
  pub all : (more : List BoardOp) → made ≤ edits_in (seen ++ more)
  pub alone : (more : List BoardOp) → edits_in (seen ++ more) ≡ made
      → contents_after (seen ++ more) ≡ texts

-- the viewer has seen these operations, of which it made so many edits: it knows by them that its
-- own texts are these
abbrev pub KnowsTexts : List BoardOp → ℕ → BenchTexts → Type 0
KnowsTexts seen made texts = (made < 2 ^ 64 - 1) × KnowsOwn seen made texts

-- the later operations go on from the earlier ones and have the edit at its number, as a desk tells
-- who made it
abbrev pub HasOwnEdit : Edit → (number : ℕ) → (seen later : List BoardOp) → Type 0
HasOwnEdit e number seen later = HasEdit IsHistory IsEditAfter IsSettle e number seen later
