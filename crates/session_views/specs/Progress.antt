-- How many cells are settled that a question asks for, and how many there are. Read after Shown.
use Rattle.std.specs.Prelude.{ℕ, zero, suc, ◌*◌, ◌-◌, ◌^◌, min, List, [], ◌∷◌, length, Bool, true, false, Option, Some, None}
use Rattle.std.specs.List.{sum_by}
use Rattle.outcome_texts.specs.Cells.{Cell, NoCell, Open, Settled}
use Rattle.bench_texts.specs.BenchTexts.{BenchTexts, model_index}
use Rattle.board.specs.Contents.{BoardContent, cell_at, shown_cell}
use Rattle.session_answers.specs.declared.progress.Progress.{Progress}
use Rattle.session_edits.specs.declared.request.Question.{Question}
use Rattle.session_edits.specs.declared.request.Question.TheVariants as questions

abbrev pub is_settled : Cell → Bool
is_settled NoCell = false
is_settled Open = false
is_settled (Settled outcome) = true

abbrev pub counted_if : Bool → ℕ → ℕ
counted_if true n = suc n
counted_if false n = n

-- how many of the first so many tests have a settled cell under the model at an index
abbrev pub settled_among : BoardContent → (model tests : ℕ) → ℕ
settled_among b model zero = 0
settled_among b model (suc n) =
    counted_if (is_settled (shown_cell (cell_at b.rows n model))) (settled_among b model n)

-- how many of all tests do under the model of a name
abbrev pub settled_under : BenchTexts → BoardContent → (name : List ℕ) → ℕ
settled_under t b name = settled_among b (model_index name t.models) (length t.tests)

-- and under the models of these names
abbrev pub settled_in_table : BenchTexts → BoardContent → (names : List (List ℕ)) → ℕ
settled_in_table t b names = sum_by (settled_under t b) names

-- the number, as far as one of 64 bits counts
abbrev pub capped : ℕ → ℕ
capped n = min n (2 ^ 64 - 1)

-- the settled cells and all cells of the table of all tests under these models; jobs are not counted
abbrev pub table_progress : BenchTexts → BoardContent → (names : List (List ℕ)) → Progress
table_progress t b names = record {
  settled = capped (settled_in_table t b names);
  cells = capped (length t.tests * length names);
  jobs = None;
}

-- those of a table, or of the two models that are compared; for one cell nothing is told
abbrev pub progress_of : BenchTexts → BoardContent → Question → Option Progress
progress_of t b (questions.Items model) = None
progress_of t b (questions.Show test model) = None
progress_of t b (questions.Counts test model) = None
progress_of t b (questions.Table names) = Some (table_progress t b names)
progress_of t b (questions.Difference first second) =
    Some (table_progress t b (first ∷ second ∷ []))
