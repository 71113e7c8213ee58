-- The texts after some operations as they are read, and with the numbers of their items. Read it
-- after Cells and Texts.
use Rattle.std.specs.Prelude.{◌≡◌, ◌≤◌, ℕ, false, List, [], ◌∷◌, ◌++◌, length}
use Rattle.outcome_states.specs.declared.answer.Outcome.{Outcome}
use Rattle.bench_texts.specs.Edits as edits
use Rattle.bench_texts.specs.Held.{texts_of}
use Rattle.board.specs.declared.operation.BoardOp.{BoardOp}
use Rattle.board.specs.Legal.{TestsAndModels, tests_and_models}
use Rattle.bench_instance.specs.declared.stamped_texts.StampedTexts.{StampedTexts}
use Rattle.bench_instance.specs.StampedCells.{cell_from_scratch}
use Rattle.board.specs.Histories.{contents_after, IsEditOf}

-- with the operation of an edit the texts are those that the edit makes
abbrev pub IsApplied : List BoardOp → BoardOp → Type 0
IsApplied ops op =
    (e : edits.Edit) (number : ℕ) → IsEditOf (contents_after ops) op e number
    → edits.Applies (contents_after ops) false e (contents_after (ops ++ op ∷ []))

-- there are no more tests and models than a bench takes
pub record AreWithinLimits (h : TestsAndModels) : Type 0 where
  pub tests : length h.tests ≤ 512
  pub models : length h.models ≤ 16

-- The texts are the same, wherever they lie in memory: their tests and models, the numbers of their
-- items, and what evaluating each test under each model from nothing gives.
pub record SayTheSameTexts (t u : StampedTexts) : Type 0 where
  pub held : tests_and_models u.texts ≡ tests_and_models t.texts
  pub contents : texts_of u.texts ≡ texts_of t.texts
  pub results : (test model : List ℕ) (o : Outcome) → cell_from_scratch t test model o
      → cell_from_scratch u test model o
