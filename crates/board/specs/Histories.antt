-- Histories of operations: the texts after them as they are read, and which edits those texts make.
-- Read it after Legal.
use Rattle.std.specs.Prelude.{◌≡◌, false, ℕ, List, [], ◌∷◌, fold, map}
use Rattle.text_values.specs.TestValue.{content_of}
use Rattle.bench_texts.specs.declared.edit.Edit as code
use Rattle.bench_texts.specs.BenchTexts.{BenchTexts, no_texts}
use Rattle.bench_texts.specs.Edits.{Edit, edit_of, is_whole, Applies}
use Rattle.bench_texts.specs.Held.{plain_model}
use Rattle.bench_texts.specs.Replacements.{texts_with, IsPutBy}
use Rattle.board.specs.declared.operation.BoardEdit.{BoardEdit}
use Rattle.board.specs.declared.operation.BoardOp.{BoardOp}
use Rattle.board.specs.declared.operation.BoardOp.TheVariants as ops
use Rattle.board.specs.Legal as legal
use Rattle.board.specs.Legal.{TestsAndModels, texts_after, MayFollow, IsLegal}

-- ---- texts after operations

-- the texts after one operation more
abbrev pub contents_with : BenchTexts → BoardOp → BenchTexts
contents_with t (ops.Edit edit) = texts_with edit.prepared.value.replacement t
contents_with t (ops.Settle at outcome) = t

-- the texts after the edits among these operations, with the numbers of their items
abbrev pub contents_after : List BoardOp → BenchTexts
contents_after all = fold contents_with no_texts all

-- these are what the tests and the models say
pub record IsContentOf (t : BenchTexts) (h : TestsAndModels) : Type 0 where
  pub tests : t.tests ≡ map content_of h.tests
  pub models : t.models ≡ map plain_model h.models

-- the two kinds of texts after these operations are the same
abbrev pub HasContents : List BoardOp → Type 0
HasContents ops = IsContentOf (contents_after ops) (texts_after ops)

-- ---- histories

-- The operation is that of this edit, which these texts make: it puts in place what the edit makes
-- of them, of the test or the model that the edit names, and says whether the edit puts or drops it
-- as a whole.
pub record IsOperationOf (t : BenchTexts) (edit : BoardEdit) (e : Edit) : Type 0 where
  pub applies : Applies t false e (texts_with edit.prepared.value.replacement t)
  pub target : IsPutBy t e edit.prepared.value.replacement
  pub whole : edit.prepared.value.whole ≡ is_whole e

-- an edit is one that these texts make
abbrev pub IsMadeOn : BenchTexts → BoardOp → Type 0
IsMadeOn t (ops.Edit edit) = (e : Edit) × IsOperationOf t edit e
IsMadeOn t (ops.Settle at outcome) = Unit {0}

-- each edit among these operations is one that these texts, after the operations before it, make
abbrev pub AreMadeFrom : BenchTexts → List BoardOp → Type 0
AreMadeFrom t [] = Unit {0}
AreMadeFrom t (op ∷ all) = IsMadeOn t op × AreMadeFrom (contents_with t op) all

-- and so from no texts
abbrev pub AreEditsMade : List BoardOp → Type 0
AreEditsMade all = AreMadeFrom no_texts all

-- the operations of a running bench
abbrev pub IsHistory : List BoardOp → Type 0
IsHistory all = IsLegal all × AreEditsMade all

-- ---- operations that come next

-- the operation may come after these
abbrev pub MayComeNext : List BoardOp → BoardOp → Type 0
MayComeNext all op =
    MayFollow (texts_after all) (legal.last_number all) op × IsMadeOn (contents_after all) op

-- the operation is that of the edit of these texts, under that number
abbrev pub IsEditOf : BenchTexts → BoardOp → Edit → ℕ → Type 0
IsEditOf t (ops.Edit edit) e number = (edit.number ≡ number) × IsOperationOf t edit e
IsEditOf t (ops.Settle at outcome) e number = ⊥

-- the operation is that of the edit of the texts after these, under that number
abbrev pub IsEditAfter : List BoardOp → BoardOp → code.Edit → ℕ → Type 0
IsEditAfter all op e number = IsEditOf (contents_after all) op (edit_of e) number

-- the operation settles a cell
abbrev pub IsSettle : BoardOp → Type 0
IsSettle (ops.Edit edit) = ⊥
IsSettle (ops.Settle at outcome) = Unit {0}
