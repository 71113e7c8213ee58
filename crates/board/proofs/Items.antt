-- The items of the models of a board are those of the texts.
use Rattle.std.proofs.Common.{◌≡◌, ℕ, ◌≤◌, List, [], ◌∷◌, length, map, Bool, refl, sym, ap, ◌∙◌, arith}
use Rattle.std.specs.Prelude.{remove, fold}
use Rattle.std.specs.Arc.{arc_value}
use Rattle.bench_texts.specs.declared.replacement.Replacement.{Replacement}
use Rattle.bench_texts.specs.declared.replacement.Replacement.TheVariants as made
use Rattle.bench_texts.specs.BenchTexts.{put_at}
use Rattle.bench_texts.proofs.Lists.{map-remove}
use Rattle.board.specs.declared.operation.BoardOp.{BoardOp}
use Rattle.board.specs.declared.operation.BoardOp.TheVariants.{Edit, Settle}
use Rattle.board.specs.declared.operation.CellIndex.{CellIndex}
use Rattle.board.specs.declared.operation.NameChange.{NameChange}
use Rattle.board.specs.declared.operation.NameChange.TheVariants.{PutTest, DropTest, PutModel, DropModel}
use Rattle.board.specs.Contents.{ColumnContent, BoardContent}
use Rattle.board.specs.Operations.{columns_after, after_operation}
use Rattle.board.specs.Legal.{TestsAndModels, tests_and_models_with, tests_and_models_after, number_after, Announces, MayFollow, LegalFrom}
use Rattle.board.specs.Right.{printed_of}
use Rattle.board.proofs.Names.{as_many, put_names}

abbrev pub HaveItems : List ColumnContent → TestsAndModels → Type 0
HaveItems columns h = map (λ c. c.items) columns ≡ map printed_of h.models

module _ (h : TestsAndModels) (columns : List ColumnContent) (cells : List CellIndex)
    (same : HaveItems columns h) where
  edit_items : (whole : Bool) (change : NameChange) (r : Replacement)
      → Announces h whole change cells r → HaveItems (columns_after change columns) (tests_and_models_with r h)
  edit_items whole (PutTest at name) (made.PutTest index test) a = same
  edit_items whole (PutTest at name) (made.DropTest index) a = absurd a
  edit_items whole (PutTest at name) (made.PutModel index model next) a = absurd a
  edit_items whole (PutTest at name) (made.DropModel index) a = absurd a
  edit_items whole (DropTest at) (made.PutTest index test) a = absurd a
  edit_items whole (DropTest at) (made.DropTest index) a = same
  edit_items whole (DropTest at) (made.PutModel index model next) a = absurd a
  edit_items whole (DropTest at) (made.DropModel index) a = absurd a
  edit_items whole (PutModel at name items) (made.PutTest index test) a = absurd a
  edit_items whole (PutModel at name items) (made.DropTest index) a = absurd a
  edit_items whole (PutModel at name items) (made.PutModel index model next) a =
      let le : at ≤ length columns = omega (arith, a.1, as_many (λ c. c.items) printed_of columns h.models same) in
      let new : ColumnContent = record { name = arc_value name; items = (arc_value items).items } in
      let printed : (arc_value items).items ≡ printed_of model = cc (a.4) in
      put_names (λ c. c.items) (λ _. new) new printed_of model (λ x. refl) columns h.models at le
      printed same
      ∙ ap (λ (n : ℕ). map printed_of (put_at n model h.models)) a.0
  edit_items whole (PutModel at name items) (made.DropModel index) a = absurd a
  edit_items whole (DropModel at) (made.PutTest index test) a = absurd a
  edit_items whole (DropModel at) (made.DropTest index) a = absurd a
  edit_items whole (DropModel at) (made.PutModel index model next) a = absurd a
  edit_items whole (DropModel at) (made.DropModel index) a =
      map-remove (λ c. c.items) columns at
      ∙ (ap (λ is. remove is at) same
      ∙ (sym (map-remove printed_of h.models at)
      ∙ ap (λ (n : ℕ). map printed_of (remove h.models n)) a.0))

step_items : (b : BoardContent) (h : TestsAndModels) (last : ℕ) (op : BoardOp) → MayFollow h last op
    → HaveItems b.columns h → HaveItems (after_operation b op).columns (tests_and_models_after h op)
step_items b h last (Edit edit) may same =
    edit_items h b.columns edit.reached.items same edit.prepared.value.whole edit.change
    edit.prepared.value.replacement may.1
step_items b h last (Settle at outcome) may same = same

pub items_from : (ops : List BoardOp) (b : BoardContent) (h : TestsAndModels) (last : ℕ)
    → LegalFrom h last ops → HaveItems b.columns h
    → HaveItems (fold after_operation b ops).columns (fold tests_and_models_after h ops)
items_from [] b h last l same = same
items_from (op ∷ ops) b h last l same =
    items_from ops (after_operation b op) (tests_and_models_after h op) (number_after last op) l.1
    (step_items b h last op l.0 same)
