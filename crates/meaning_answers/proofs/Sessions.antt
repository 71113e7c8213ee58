-- The tests of a session write numbers of 32 bits, so its answers tell what they say.
use Rattle.std.proofs.Common.{◌≡◌, ℕ, List, [], ◌∷◌, Bool, Option, Some, None, refl, sym, subst}
use Rattle.std.specs.Prelude.{false, map}
use Rattle.std.specs.List.{AllZip, AllByRecursion}
use Rattle.std.proofs.lemmas.List.Elements.{All-nil, recursion_from_All}
use Rattle.text_values.specs.TestValue.{Content}
use Rattle.outcome_texts.specs.Cells.{Cell, NoCell, Open, Settled, cell_log, cell_counts}
use Rattle.outcome_texts.specs.Columns.{Row, table_of}
use Rattle.outcome_texts.specs.Differences.{differences_printed}
use Rattle.bench_texts.specs.BenchTexts.{BenchTexts, PlainModel, test_index}
use Rattle.bench_texts.specs.Edits.{Edit}
use Rattle.session_edits.specs.Answer.{SessionAnswer}
use Rattle.session_edits.specs.Edits.{IsEditAnswer, IsAccepted, IsRefused}
use Rattle.session_edits.specs.Requests.{RequestAsked, Editing, Asking, request_meaning}
use Rattle.session_edits.specs.declared.request.Question.{Question}
use Rattle.session_edits.specs.declared.request.Question.TheVariants as questions
use Rattle.session_answers.specs.Cells.{test_named, model_named, models_named, IsPlainCell, IsPlainRow}
use Rattle.session_answers.specs.Questions.{IsLogReply, IsCountsReply, IsTableReply, IsDifferenceReply, IsReply}
use Rattle.session_answers.specs.Rows.{pair_in}
use Rattle.session_answers.specs.Sessions.{IsRequestAnswer, IsCommandAnswer, IsOutput, Nothing, OneMore}
use Rattle.session_script.specs.declared.command.Command.{Command}
use Rattle.session_script.specs.declared.command.Command.TheVariants as commands
use Rattle.meaning_laws.specs.Words.{IsTestOfWords}
use Rattle.meaning_edits.specs.Edits.{AreTextsOfWords}
use Rattle.meaning_edits.proofs.Edited.{held_at, keeps_words}
use Rattle.meaning_answers.specs.Replies as said_so
use Rattle.meaning_answers.specs.Replies.{IsCellSaid, IsRowSaid, IsReplySaid, IsRequestSaid, IsCommandSaid, IsOutputSaid, OutputsAreSaid}
use Rattle.meaning_answers.proofs.Saying.{Laws, plain_said}

edit_words : (t after : BenchTexts) (edit : Edit) (said : SessionAnswer) → AreTextsOfWords t
    → IsEditAnswer t edit said after → AreTextsOfWords after
edit_words t after edit said words (IsAccepted applies is) =
    keeps_words t after false edit words applies
edit_words t after edit said words (IsRefused fault line refuses is same) =
    subst AreTextsOfWords (sym same) words

request_words : (t after : BenchTexts) (request : RequestAsked) (said : SessionAnswer)
    → AreTextsOfWords t → IsRequestAnswer t request said after → AreTextsOfWords after
request_words t after (Editing edit) said words h = edit_words t after edit said words h
request_words t after (Asking question) said words h = subst AreTextsOfWords (sym h.1) words

command_words : (t after : BenchTexts) (command : Command) (said : SessionAnswer)
    → AreTextsOfWords t → IsCommandAnswer t command said after → AreTextsOfWords after
command_words t after (commands.Refused rule) said words h =
    subst AreTextsOfWords (sym h.1) words
command_words t after (commands.Asked request text) said words h =
    request_words t after (request_meaning request text) said words h

output_words : (cs : List Command) (text : List ℕ) (refused : Bool) (t : BenchTexts)
    → IsOutput cs text refused t → AreTextsOfWords t
output_words cs text refused t Nothing = All-nil IsTestOfWords
output_words cs text refused t (OneMore prefix front was before command said after earlier answer) =
    command_words before after command said (output_words prefix front was before earlier) answer

-- ---- answers

module _ (laws : Laws) where
  cell_said : (test : Content) (model : PlainModel) (cell : Cell) → IsTestOfWords test
      → IsPlainCell test model cell → IsCellSaid test model cell
  cell_said test model NoCell words h = absurd h
  cell_said test model Open words h = absurd h
  cell_said test model (Settled o) words h = plain_said laws test model o words h

  cells_said : (test : Content) (models : List PlainModel) (cells : List Cell) → IsTestOfWords test
      → AllZip (IsPlainCell test) models cells → AllZip (IsCellSaid test) models cells
  cells_said test [] [] words h = tt
  cells_said test [] (c ∷ cs) words h = absurd h
  cells_said test (m ∷ ms) [] words h = absurd h
  cells_said test (m ∷ ms) (c ∷ cs) words h =
      (cell_said test m c words h.0, cells_said test ms cs words h.1)

  rows_said : (models : List PlainModel) (tests : List Content) (rows : List Row)
      → AllByRecursion IsTestOfWords tests → AllZip (IsPlainRow models) tests rows
      → AllZip (IsRowSaid models) tests rows
  rows_said models [] [] words h = tt
  rows_said models [] (r ∷ rs) words h = absurd h
  rows_said models (t ∷ ts) [] words h = absurd h
  rows_said models (t ∷ ts) (r ∷ rs) words h = (
    record { name = (h.0).name; cells = cells_said t models r.cells words.0 (h.0).cells },
    rows_said models ts rs words.1 h.1,
  )

  abbrev AreWords : Option Content → Type 0
  AreWords c = (test : Content) → c ≡ Some test → IsTestOfWords test

  log_reply : (c : Option Content) (m : Option PlainModel) (said : SessionAnswer) → AreWords c
      → IsLogReply c m said
      → said_so.IsOneSaid (λ t o. cell_log t.name (Settled o)) c m said
  log_reply None m said words h = h
  log_reply (Some test) None said words h = h
  log_reply (Some test) (Some model) said words (o, plain, is) =
      (o, plain_said laws test model o (words test refl) plain, is)

  counts_reply : (c : Option Content) (m : Option PlainModel) (said : SessionAnswer) → AreWords c
      → IsCountsReply c m said
      → said_so.IsOneSaid (λ t o. cell_counts (Settled o)) c m said
  counts_reply None m said words h = h
  counts_reply (Some test) None said words h = h
  counts_reply (Some test) (Some model) said words (o, plain, is) =
      (o, plain_said laws test model o (words test refl) plain, is)

  module _ (t : BenchTexts) (words : AreTextsOfWords t) where
    named_words : (name : List ℕ) → AreWords (test_named t name)
    named_words name test is =
        held_at IsTestOfWords t.tests (test_index name t.tests) test words is

    table_reply : (names : List (List ℕ)) (models : Option (List PlainModel)) (said : SessionAnswer)
        → IsTableReply t names models said
        → said_so.IsAllSaid (λ rows. table_of names rows) t models said
    table_reply names None said h = h
    table_reply names (Some models) said (rows, are, is) =
        (rows, rows_said models t.tests rows (recursion_from_All IsTestOfWords t.tests words) are, is)

    difference_reply : (models : Option (List PlainModel)) (said : SessionAnswer)
        → IsDifferenceReply t models said
        → said_so.IsAllSaid (λ rows. differences_printed (map pair_in rows)) t models said
    difference_reply None said h = h
    difference_reply (Some models) said (rows, are, is) =
        (rows, rows_said models t.tests rows (recursion_from_All IsTestOfWords t.tests words) are, is)

    reply_said : (question : Question) (said : SessionAnswer) → IsReply t question said
        → IsReplySaid t question said
    reply_said (questions.Items model) said h = h
    reply_said (questions.Show test model) said h =
        log_reply (test_named t test) (model_named t model) said (named_words test) h
    reply_said (questions.Counts test model) said h =
        counts_reply (test_named t test) (model_named t model) said (named_words test) h
    reply_said (questions.Table names) said h = table_reply names (models_named t names) said h
    reply_said (questions.Difference first second) said h =
        difference_reply (models_named t (first ∷ second ∷ [])) said h

    request_said : (request : RequestAsked) (said : SessionAnswer) (after : BenchTexts)
        → IsRequestAnswer t request said after → IsRequestSaid t request said after
    request_said (Editing edit) said after h = h
    request_said (Asking question) said after h = (reply_said question said h.0, h.1)

    command_said : (command : Command) (said : SessionAnswer) (after : BenchTexts)
        → IsCommandAnswer t command said after → IsCommandSaid t command said after
    command_said (commands.Refused rule) said after h = h
    command_said (commands.Asked request text) said after h =
        request_said (request_meaning request text) said after h

  pub outputs_said : OutputsAreSaid
  outputs_said cs text refused t Nothing = said_so.Nothing
  outputs_said cs text refused t (OneMore prefix front was before command said after earlier answer) =
      said_so.OneMore prefix front was before command said after
      (outputs_said prefix front was before earlier)
      (command_said before (output_words prefix front was before earlier) command said after answer)
