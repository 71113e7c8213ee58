-- What is printed of two texts is what the one says under the other.
use Rattle.std.proofs.Common.{ℕ, List, All, Bool, Option, sym, subst}
use Rattle.std.specs.Prelude.{Result, Ok, Err, map}
use Rattle.text_values.specs.declared.model.ModelText.{ModelText}
use Rattle.text_values.specs.declared.test.Test.{Test}
use Rattle.text_values.specs.ModelValue.{Clause}
use Rattle.text_values.specs.ModelValues.{clauses_of}
use Rattle.text_values.specs.TestValue.{Content, content_of}
use Rattle.outcome_states.specs.declared.answer.Evaluation.{Evaluation}
use Rattle.outcome_states.specs.declared.answer.Outcome.{Outcome}
use Rattle.outcome_states.specs.declared.answer.OutcomeResult.{OutcomeResult}
use Rattle.outcome_states.specs.declared.answer.OutcomeResult.TheVariants as results
use Rattle.outcome_states.specs.declared.answer.Refusal.TheVariants as reasons
use Rattle.from_scratch.specs.FromScratch.{IsFaultless, IsFromScratch, IsEvaluationOf, IsResultOf}
use Rattle.bench_texts.specs.BenchTexts.{PlainModel}
use Rattle.session_answers.specs.Cells.{IsPlainOutcome}
use Rattle.command_line.specs.declared.fault.SessionFault.{SessionFault}
use Rattle.command_line.specs.declared.fault.SessionFault.TheVariants as session_faults
use Rattle.command_answers.specs.Answer.{IsEvalLog, IsEvalAnswer, IsEvaluated, RefusesModel, RefusesTest, IsEvalWritten, IsWrittenOf, IsStreamed}
use Rattle.command_answers.specs.Made.{IsAnswerWritten}
use Rattle.meaning_laws.specs.Words.{IsTestOfWords}
use Rattle.meaning_texts.proofs.Reading.{all_read}
use Rattle.meaning_states.specs.Texts.{IsPrinted, StatesArePrinted}
use Rattle.meaning_outcomes.specs.Outcomes.{TestsOfWordsAreMeant}
use Rattle.meaning_answers.specs.Answers as said
use Rattle.meaning_answers.specs.Answers.{AreStatesPrinted, IsOutcomeSaid, IsLogSaid, IsAnswerSaid, IsAnswerOf, IsStreamSaid}

-- ---- outcomes

-- what is known of tests that write numbers of 32 bits
pub record Laws : Type 0 where
  pub meant : TestsOfWordsAreMeant
  pub printed : StatesArePrinted

module _ (laws : Laws) where
  evaluation_printed : (test : Test) → IsTestOfWords (content_of test) → (model : ModelText)
      (e : Evaluation) → IsFaultless model → IsEvaluationOf test model e
      → All (IsPrinted (content_of test)) e.states
  evaluation_printed test words model e none (resolved, of, space, lists, by) =
      laws.printed test words space lists model.items.items resolved none of.0 of.1 e by

  states_printed : (test : Test) → IsTestOfWords (content_of test) → (model : ModelText)
      (r : OutcomeResult) → IsResultOf test model r → AreStatesPrinted (content_of test) r
  states_printed test words model (results.Refused (reasons.Model k)) h = tt
  states_printed test words model (results.Refused (reasons.Space r)) h = tt
  states_printed test words model (results.Evaluated e) (none, evaluated) =
      evaluation_printed test words model e none evaluated

  pub outcome_said : (test : Test) → IsTestOfWords (content_of test) → (model : ModelText)
      (o : Outcome) → IsFromScratch test model o
      → IsOutcomeSaid (content_of test) (clauses_of model.items.items) o
  outcome_said test words model o h = record {
    says = laws.meant test words model o h;
    kind = h.kind;
    condition = h.condition;
    states = states_printed test words model o.result h.result;
  }

  -- so it is wherever the test and the model lie in memory
  pub plain_said : (content : Content) (model : PlainModel) (o : Outcome) → IsTestOfWords content
      → IsPlainOutcome content model o → IsOutcomeSaid content (map (λ i. i.clause) model.items) o
  plain_said content model o words h =
      let own = subst IsTestOfWords (sym h.test_is) words in
      subst (λ (c : Content). IsOutcomeSaid c (map (λ i. i.clause) model.items) o) h.test_is
      (subst (λ (items : List Clause). IsOutcomeSaid (content_of h.test) items o) h.model_is
      (outcome_said h.test own h.model o h.said))

  -- ---- answers

  log_said : (model test log : List ℕ) → IsEvalLog model test log → IsLogSaid model test log
  log_said model test log h = record {
    items = clauses_of h.items.items.items;
    content = content_of h.known;
    model_read = h.model_read;
    test_read = h.test_read;
    outcome = (h.said).0;
    said =
        outcome_said h.known (all_read test (content_of h.known) h.test_read) h.items (h.said).0
        (h.said).1;
    log_is = (h.said).2;
  }

  answer_said : (model test text : List ℕ) (refused : Bool) → IsEvalAnswer model test text refused
      → IsAnswerSaid model test text refused
  answer_said model test text refused (IsEvaluated not log) =
      said.SaysLog not (log_said model test text log)
  answer_said model test text refused (RefusesModel is rule offset fault line) =
      said.RefusesModel is rule offset fault line
  answer_said model test text refused (RefusesTest is rule offset read fault line) =
      said.RefusesTest is rule offset read fault line

  -- ---- what is written

  written_said : (model test : List ℕ) (old new : Option (List ℕ))
      (result : Result Bool SessionFault) → IsEvalWritten model test old new result
      → IsAnswerWritten (IsAnswerSaid model test) old new result
  written_said model test old new (Ok refused) (text, answer, written) =
      (text, answer_said model test text refused answer, written)
  written_said model test old new (Err session_faults.Write) (text, refused, answer, written) =
      (text, refused, answer_said model test text refused answer, written)
  written_said model test old new (Err session_faults.Read) keeps = keeps
  written_said model test old new (Err session_faults.Memory) keeps = keeps
  written_said model test old new (Err session_faults.Shared) h = absurd h

  answer_of : (left old new : Option (List ℕ)) (result : Result Bool SessionFault)
      → IsWrittenOf left old new result → IsAnswerOf left old new result
  answer_of left old new result h = record {
    model = h.model;
    test = h.test;
    cut = h.cut;
    written = written_said h.model h.test old new result h.written;
  }

  pub stream_said : (left old new : Option (List ℕ)) (result : Result Bool SessionFault)
      → IsStreamed left old new result → IsStreamSaid left old new result
  stream_said left old new (Ok refused) h = answer_of left old new (Ok refused) h
  stream_said left old new (Err session_faults.Write) h =
      answer_of left old new (Err session_faults.Write) h
  stream_said left old new (Err session_faults.Read) keeps = keeps
  stream_said left old new (Err session_faults.Memory) keeps = keeps
  stream_said left old new (Err session_faults.Shared) h = absurd h
