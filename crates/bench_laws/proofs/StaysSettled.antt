-- A cell that is shown as settled stays so as long as no edit reaches it.
use Rattle.std.proofs.Common.{◌≡◌, ℕ, inl, inr, List, [], ◌∷◌, ◌++◌, Option, Some, None, append_assoc, append-nil, sym, ap, subst, ◌∙◌}
use Rattle.std.specs.Prelude.{◌==◌}
use Rattle.std.specs.Arc.{arc_value}
use Rattle.std.proofs.lemmas.Bool.{cases_Bool, eqb-true, eqb-false}
use Rattle.outcome_states.specs.declared.answer.Outcome.{Outcome}
use Rattle.outcome_texts.specs.Cells.{Cell, Settled}
use Rattle.board.specs.declared.operation.BoardOp.{BoardOp}
use Rattle.board.specs.declared.operation.BoardOp.TheVariants.{Edit, Settle}
use Rattle.board.specs.declared.operation.CellIndex.{CellIndex}
use Rattle.board.specs.Contents.{RowContent, BoardContent, cell_at, shown_cell, cell_named}
use Rattle.board.specs.Operations.{put_cell, after_operation, no_board, board_after}
use Rattle.board.specs.Legal.{TestsAndModels, no_tests_or_models, tests_and_models_after, texts_after}
use Rattle.board.specs.Histories.{IsHistory}
use Rattle.bench_texts.specs.BenchTexts.{no_texts}
use Rattle.board.specs.Results.{IsResultIn, IsRightCell}
use Rattle.board.proofs.Names.{beginning_is_legal}
use Rattle.board.proofs.Rights.{right_cell, one_result}
use Rattle.bench_laws.specs.Openings.{test_at, model_at, AllLeaveCell, LeavesCell, StaysSettled}
use Rattle.bench_laws.proofs.CellLists.{put_same, put_other}
use Rattle.bench_laws.proofs.Openings.{fold_last, made_beginning, keeps_unreached, named_after, shown_at}

-- a cell that is settled is settled after another, or the same, is
still_settled : (rows : List RowContent) (i j k l : ℕ) (p o : Outcome)
    → cell_at rows k l ≡ Some (Some o)
    → (q : Outcome) × (cell_at (put_cell i j (Some p) rows) k l ≡ Some (Some q))
still_settled rows i j k l p o e = elim (cases_Bool (i == k)) [
  | inl t ↦ elim (cases_Bool (j == l)) [
    | inl m ↦ (let tests = eqb-true i k t in let models = eqb-true j l m in (
      p,
      subst (λ (n : ℕ). cell_at (put_cell i j (Some p) rows) n l ≡ Some (Some p)) tests
          (subst (λ (n : ℕ). cell_at (put_cell i j (Some p) rows) i n ≡ Some (Some p)) models
          (put_same j (Some p) i rows (Some o) (subst (λ (n : ℕ). cell_at rows i n ≡ Some (Some o))
          (sym models) (subst (λ (n : ℕ). cell_at rows n l ≡ Some (Some o)) (sym tests)
          e)))),
    ))
    | inr m ↦ (o, put_other j (Some p) i rows k l (λ f g. eqb-false j l m g) ∙ e)
  ]
  | inr t ↦ (o, put_other j (Some p) i rows k l (λ f g. eqb-false i k t f) ∙ e)
]

-- a cell that is shown as settled is a settled one
settled_cell : (c : Option (Option Outcome)) (o : Outcome) → shown_cell c ≡ Settled o
    → c ≡ Some (Some o)
settled_cell None o e = cc
settled_cell (Some None) o e = cc
settled_cell (Some (Some p)) o e = cc

beginning : (ops others : List BoardOp) → IsHistory (ops ++ others) → IsHistory ops
beginning ops others history = (
  beginning_is_legal ops others no_tests_or_models 0 history.0,
  made_beginning ops others no_texts history.1,
)

result_shown : (h : TestsAndModels) (test model : List ℕ) (c : Cell) (o : Outcome)
    → IsRightCell h test model c → c ≡ Settled o → IsResultIn h test model o
result_shown h test model c o right e = subst (λ (x : Cell). IsRightCell h test model x) e right

module _ (ops : List BoardOp) (at : CellIndex) (outcome : _)
    (history : IsHistory (ops ++ Settle at outcome ∷ [])) (test model : List ℕ) (o : Outcome)
    (was : cell_named (board_after ops) test model ≡ Settled o) where
  abbrev after : List BoardOp
  after = ops ++ Settle at outcome ∷ []

  abbrev h : TestsAndModels
  h = texts_after ops

  before : IsHistory ops
  before = beginning ops (Settle at outcome ∷ []) history

  texts_same : texts_after after ≡ h
  texts_same = fold_last tests_and_models_after ops (Settle at outcome) no_tests_or_models

  board_is : board_after after ≡ after_operation (board_after ops) (Settle at outcome)
  board_is = fold_last after_operation ops (Settle at outcome) no_board

  moved : cell_named (board_after after) test model
      ≡ shown_cell (cell_at
      (put_cell at.test at.model (Some (arc_value outcome)) (board_after ops).rows)
      (test_at h test) (model_at h model))
  moved =
      shown_at (texts_after after) (board_after after) (named_after after history.0) test model
      ∙ (ap
      (λ (c : BoardContent). shown_cell (cell_at c.rows (test_at (texts_after after) test)
      (model_at (texts_after after) model))) board_is
      ∙ ap
      (λ (g : TestsAndModels). shown_cell (cell_at
      (put_cell at.test at.model (Some (arc_value outcome)) (board_after ops).rows)
      (test_at g test) (model_at g model))) texts_same)

  -- some outcome is shown
  some_shown : (q : Outcome) × (cell_named (board_after after) test model ≡ Settled q)
  some_shown =
      let b : BoardContent = board_after ops in
      let here = settled_cell (cell_at b.rows (test_at h test) (model_at h model)) o (sym (shown_at h b (named_after ops before.0) test model) ∙ was) in
      let still = still_settled b.rows at.test at.model (test_at h test) (model_at h model) (arc_value outcome) o here in
      (still.0, moved ∙ ap shown_cell still.1)

  -- and it is the one before, since texts have one result
  settle_stays : cell_named (board_after after) test model ≡ Settled o
  settle_stays =
      let new = result_shown (texts_after after) test model (cell_named (board_after after) test model) some_shown.0 (right_cell after history.0 test model) some_shown.1 in
      let old = result_shown h test model (cell_named (board_after ops) test model) o (right_cell ops before.0 test model) was in
      let same = one_result h test model some_shown.0 o (subst (λ (g : TestsAndModels). IsResultIn g test model some_shown.0) texts_same new) old in
      some_shown.1 ∙ ap Settled same

one_stays : (ops : List BoardOp) (op : BoardOp) (test model : List ℕ) (o : Outcome)
    → IsHistory (ops ++ op ∷ []) → LeavesCell ops op test model
    → cell_named (board_after ops) test model ≡ Settled o
    → cell_named (board_after (ops ++ op ∷ [])) test model ≡ Settled o
one_stays ops (Edit edit) test model o history leaves was =
    keeps_unreached ops edit history test model leaves.0 leaves.1 ∙ was
one_stays ops (Settle at outcome) test model o history leaves was =
    settle_stays ops at outcome history test model o was

all_stay : (more ops : List BoardOp) (test model : List ℕ) (o : Outcome) → IsHistory (ops ++ more)
    → AllLeaveCell ops more test model → cell_named (board_after ops) test model ≡ Settled o
    → cell_named (board_after (ops ++ more)) test model ≡ Settled o
all_stay [] ops test model o history leaves was =
    subst (λ (l : List BoardOp). cell_named (board_after l) test model ≡ Settled o)
    (sym (append-nil ops)) was
all_stay (op ∷ more) ops test model o history leaves was =
    let same = append_assoc ops (op ∷ []) more in
    let later : IsHistory ((ops ++ op ∷ []) ++ more) = subst (λ (l : List BoardOp). IsHistory l) (sym same) history in
    let one = one_stays ops op test model o (beginning (ops ++ op ∷ []) more later) leaves.0 was in
    subst (λ (l : List BoardOp). cell_named (board_after l) test model ≡ Settled o) same
    (all_stay more (ops ++ op ∷ []) test model o later leaves.1 one)

pub stays_settled : (ops more : List BoardOp) → IsHistory (ops ++ more) → StaysSettled ops more
stays_settled ops more history test model o leaves was =
    all_stay more ops test model o history leaves was
