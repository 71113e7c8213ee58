-- What a session answers, by the definitions of `meaning`: as `Questions` and `Sessions` of
-- `session_answers/specs` say it, where each outcome is what the test says under the model. Read it
-- after Answers.
use Rattle.std.specs.Prelude.{◌≡◌, ℕ, List, [], ◌∷◌, ◌++◌, Bool, false, ◌||◌, Option, Some, None, map}
use Rattle.std.specs.List.{AllZip}
use Rattle.text_values.specs.TestValue.{Content}
use Rattle.outcome_states.specs.declared.answer.Outcome.{Outcome}
use Rattle.outcome_texts.specs.Cells.{Cell, Settled, cell_log, cell_counts}
use Rattle.outcome_texts.specs.Columns.{Row, table_of}
use Rattle.outcome_texts.specs.Differences.{differences_printed}
use Rattle.bench_texts.specs.BenchTexts.{BenchTexts, PlainModel, no_texts}
use Rattle.bench_texts.specs.declared.fault.EditFault.TheVariants.{NoTest, NoModel}
use Rattle.session_script.specs.declared.command.Command.{Command}
use Rattle.session_script.specs.declared.command.Command.TheVariants as commands
use Rattle.session_script.specs.Rules.{script_rule_number}
use Rattle.session_edits.specs.Answer.{SessionAnswer, plain_answer, refusal_answer, refusal_line}
use Rattle.session_edits.specs.Edits.{IsEditAnswer}
use Rattle.session_edits.specs.Faults.{fault_line}
use Rattle.session_edits.specs.Requests.{RequestAsked, Editing, Asking, request_meaning}
use Rattle.session_edits.specs.declared.request.Question.{Question}
use Rattle.session_edits.specs.declared.request.Question.TheVariants as questions
use Rattle.session_answers.specs.Cells.{test_named, model_named, models_named}
use Rattle.session_answers.specs.Questions.{IsItemsReply}
use Rattle.session_answers.specs.Rows.{pair_in}
use Rattle.session_answers.specs.Sessions.{IsOutput}
use Rattle.meaning_answers.specs.Answers.{IsOutcomeSaid}

-- the outcome is what the test says under the model
abbrev pub IsOutcomeUnder : Content → PlainModel → Outcome → Type 0
IsOutcomeUnder test model o = IsOutcomeSaid test (map (λ i. i.clause) model.items) o

abbrev pub IsCellSaid : Content → PlainModel → Cell → Type 0
IsCellSaid test model (Settled o) = IsOutcomeUnder test model o
IsCellSaid test model cell = ⊥

-- the row of a test under these models
pub record IsRowSaid (models : List PlainModel) (test : Content) (row : Row) : Type 0 where
  pub name : row.name ≡ test.name
  pub cells : AllZip (IsCellSaid test) models row.cells

-- ---- answers to questions

-- of a test under a model this is told, or which of the two is not there
abbrev pub IsOneSaid : (Content → Outcome → List ℕ) → Option Content → Option PlainModel
    → SessionAnswer
    → Type 0
IsOneSaid told None model said = said ≡ refusal_answer (fault_line NoTest)
IsOneSaid told (Some test) None said = said ≡ refusal_answer (fault_line NoModel)
IsOneSaid told (Some test) (Some model) said =
    (o : Outcome) × IsOutcomeUnder test model o × (said ≡ plain_answer (told test o))

-- of all tests under some models this is told, or that one of these is not there
abbrev pub IsAllSaid : (List Row → List ℕ) → BenchTexts → Option (List PlainModel) → SessionAnswer
    → Type 0
IsAllSaid told t None said = said ≡ refusal_answer (fault_line NoModel)
IsAllSaid told t (Some models) said =
    (rows : List Row) × AllZip (IsRowSaid models) t.tests rows × (said ≡ plain_answer (told rows))

-- the answer to a question: the items of a model, a log, counts, a table, or a difference
abbrev pub IsReplySaid : BenchTexts → Question → SessionAnswer → Type 0
IsReplySaid t (questions.Items model) said = IsItemsReply (model_named t model) said
IsReplySaid t (questions.Show test model) said =
    IsOneSaid (λ c o. cell_log c.name (Settled o)) (test_named t test) (model_named t model) said
IsReplySaid t (questions.Counts test model) said =
    IsOneSaid (λ c o. cell_counts (Settled o)) (test_named t test) (model_named t model) said
IsReplySaid t (questions.Table names) said =
    IsAllSaid (λ rows. table_of names rows) t (models_named t names) said
IsReplySaid t (questions.Difference first second) said =
    IsAllSaid (λ rows. differences_printed (map pair_in rows)) t
    (models_named t (first ∷ second ∷ [])) said

-- ---- the output of commands

-- an edit may change the texts, a question leaves them
abbrev pub IsRequestSaid : BenchTexts → RequestAsked → SessionAnswer → BenchTexts → Type 0
IsRequestSaid t (Editing edit) said after = IsEditAnswer t edit said after
IsRequestSaid t (Asking question) said after = IsReplySaid t question said × (after ≡ t)

-- what is no command is refused
abbrev pub IsCommandSaid : BenchTexts → Command → SessionAnswer → BenchTexts → Type 0
IsCommandSaid t (commands.Refused rule) said after =
    (said ≡ refusal_answer (refusal_line 81 (script_rule_number rule))) × (after ≡ t)
IsCommandSaid t (commands.Asked request text) said after =
    IsRequestSaid t (request_meaning request text) said after

-- the output of these commands, whether one of them is refused, and the texts after them
pub data IsOutputSaid : List Command → List ℕ → Bool → BenchTexts → Type 0 where
  Nothing : IsOutputSaid [] [] false no_texts
  OneMore : (prefix : List Command) (text : List ℕ) (refused : Bool) (before : BenchTexts)
      (command : Command) (said : SessionAnswer) (after : BenchTexts)
      → IsOutputSaid prefix text refused before → IsCommandSaid before command said after
      → IsOutputSaid (prefix ++ command ∷ []) (text ++ said.text) (refused || said.refused) after

-- So it is with each output of a session.
abbrev pub OutputsAreSaid : Type 0
OutputsAreSaid =
    (cs : List Command) (text : List ℕ) (refused : Bool) (t : BenchTexts)
    → IsOutput cs text refused t → IsOutputSaid cs text refused t
