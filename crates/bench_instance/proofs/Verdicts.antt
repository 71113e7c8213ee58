-- The verdict of an open cell, by its indexes.
use Rattle.std.proofs.Common.{◌≡◌, ◌<◌, ℕ, inr, List, Option, Some, None, length, refl, sym, subst, ◌∙◌}
use Rattle.std.specs.Prelude.{slice_get, IfSome, IfNone}
use Rattle.outcome_states.specs.declared.answer.Outcome.{Outcome}
use Rattle.memo_core.specs.declared.keys.Node.{Node}
use Rattle.desk_ledger.specs.Boards.{BoardCell, HasVerdictAt, HasNoneToPost}
use Rattle.desk_ledger.proofs.Outcomes.{get_below}
use Rattle.board.specs.declared.operation.BoardOp.{BoardOp}
use Rattle.board.specs.declared.operation.CellIndex.{CellIndex}
use Rattle.board.specs.Contents.{BoardContent}
use Rattle.board.specs.Operations.{board_after}
use Rattle.bench_instance.specs.declared.stamped_texts.StampedTexts.{StampedTexts}
use Rattle.bench_instance.specs.StampedTexts.{AreSoundTexts, verdict_by, verdict_of}
use Rattle.bench_instance.specs.Cells.{board_cells, IsCellIndexOf}
use Rattle.bench_instance.specs.Texts.{AreAfter}
use Rattle.bench_instance.specs.Lemmas.Laws.{verdict_here}
use Rattle.bench_instance.proofs.Indexes.{is_countable}

module _ (t : StampedTexts) (all : List BoardOp) (b : BoardContent) (index : ℕ) (at : CellIndex)
    (sound : AreSoundTexts t) (after : AreAfter t all) (is_board : b ≡ board_after all)
    (lt : index < length (board_cells b)) (is : IsCellIndexOf b index at) where
  abbrev made : Option Node
  made =
      verdict_by (slice_get t.parts.table.tests.items at.test)
      (slice_get t.parts.table.models.items at.model)

  verdict_on : (c : BoardCell Outcome) → slice_get (board_cells b) index ≡ Some c
      → verdict_of t c.test c.model ≡ made
  verdict_on c h =
      verdict_here t all index c at sound after
      (is_countable (board_after all) index
      (subst (λ (x : BoardContent). index < length (board_cells x)) is_board lt))
      (subst (λ (x : BoardContent). IsCellIndexOf x index at) is_board is)
      (subst (λ (x : BoardContent). slice_get (board_cells x) index ≡ Some c) is_board h)

  pub has_verdict : (r : Option Node) → r ≡ made
      → IfSome r (HasVerdictAt (verdict_of t) (board_cells b) index)
  has_verdict None e = tt
  has_verdict (Some n) e =
      let c = get_below (board_cells b) index lt in (c.0, c.1, verdict_on c.0 c.1 ∙ sym e)

  pub has_none : (r : Option Node) → r ≡ made
      → IfNone r (HasNoneToPost (verdict_of t) (board_cells b) index)
  has_none None e = λ c there. inr (verdict_on c there ∙ sym e)
  has_none (Some n) e = tt
