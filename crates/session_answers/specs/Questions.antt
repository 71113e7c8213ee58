-- What a session says to a question. A name that is not there is X1 of a test, X2 of a model; the
-- first word is judged first.
use Rattle.std.specs.Prelude.{◌≡◌, ℕ, List, [], ◌∷◌, map, Option, Some, None}
use Rattle.std.specs.List.{AllZip}
use Rattle.text_values.specs.TestValue.{Content}
use Rattle.outcome_states.specs.declared.answer.Outcome.{Outcome}
use Rattle.outcome_texts.specs.Cells.{Settled, cell_log, cell_counts}
use Rattle.outcome_texts.specs.Columns.{Row, table_of}
use Rattle.outcome_texts.specs.Differences.{differences_printed}
use Rattle.bench_texts.specs.BenchTexts.{BenchTexts, PlainModel}
use Rattle.bench_texts.specs.Printed.{printed_items}
use Rattle.bench_texts.specs.declared.fault.EditFault.TheVariants.{NoTest, NoModel}
use Rattle.session_edits.specs.Answer.{SessionAnswer, plain_answer, refusal_answer}
use Rattle.session_edits.specs.Faults.{fault_line}
use Rattle.session_edits.specs.declared.request.Question.{Question}
use Rattle.session_edits.specs.declared.request.Question.TheVariants as questions
use Rattle.session_answers.specs.Cells.{test_named, model_named, models_named, IsPlainOutcome, IsPlainRow}
use Rattle.session_answers.specs.Rows.{pair_in}

-- ---- each item of a model: number, space, item

abbrev pub IsItemsReply : Option PlainModel → SessionAnswer → Type 0
IsItemsReply None said = said ≡ refusal_answer (fault_line NoModel)
IsItemsReply (Some model) said = said ≡ plain_answer (printed_items model.items)

-- ---- a test under a model: its log, or its counts

abbrev pub IsLogReply : Option Content → Option PlainModel → SessionAnswer → Type 0
IsLogReply None model said = said ≡ refusal_answer (fault_line NoTest)
IsLogReply (Some test) None said = said ≡ refusal_answer (fault_line NoModel)
IsLogReply (Some test) (Some model) said =
    (o : Outcome) × IsPlainOutcome test model o × (said ≡ plain_answer (cell_log test.name (Settled o)))

abbrev pub IsCountsReply : Option Content → Option PlainModel → SessionAnswer → Type 0
IsCountsReply None model said = said ≡ refusal_answer (fault_line NoTest)
IsCountsReply (Some test) None said = said ≡ refusal_answer (fault_line NoModel)
IsCountsReply (Some test) (Some model) said =
    (o : Outcome) × IsPlainOutcome test model o × (said ≡ plain_answer (cell_counts (Settled o)))

-- ---- all tests under some models: the table, or where two models differ

abbrev pub ArePlainRows : BenchTexts → List PlainModel → List Row → Type 0
ArePlainRows t models rows = AllZip (IsPlainRow models) t.tests rows

abbrev pub IsTableReply : BenchTexts → List (List ℕ) → Option (List PlainModel) → SessionAnswer
    → Type 0
IsTableReply t names None said = said ≡ refusal_answer (fault_line NoModel)
IsTableReply t names (Some models) said =
    (rows : List Row) × ArePlainRows t models rows × (said ≡ plain_answer (table_of names rows))

abbrev pub IsDifferenceReply : BenchTexts → Option (List PlainModel) → SessionAnswer → Type 0
IsDifferenceReply t None said = said ≡ refusal_answer (fault_line NoModel)
IsDifferenceReply t (Some models) said =
    (rows : List Row) × ArePlainRows t models rows
    × (said ≡ plain_answer (differences_printed (map pair_in rows)))

-- ---- any question

abbrev pub IsReply : BenchTexts → Question → SessionAnswer → Type 0
IsReply t (questions.Items model) said = IsItemsReply (model_named t model) said
IsReply t (questions.Show test model) said =
    IsLogReply (test_named t test) (model_named t model) said
IsReply t (questions.Counts test model) said =
    IsCountsReply (test_named t test) (model_named t model) said
IsReply t (questions.Table names) said = IsTableReply t names (models_named t names) said
IsReply t (questions.Difference first second) said =
    IsDifferenceReply t (models_named t (first ∷ second ∷ [])) said
