-- What is printed of a model's text and a test's text, by the definitions of `meaning`. Read before
-- it: `Evaluates` of `meaning/specs`, and `Log` of `outcome_texts/specs` for the lines of a log.
-- Read next: Replies, Files.
use Rattle.std.specs.Prelude.{◌≡◌, ℕ, List, Bool, true, false, Option, Result, Ok, Err, IfSome, All}
use Rattle.std.specs.Io.KnownBytes.{Keeps}
use Rattle.text_values.specs.TestValue.{Content}
use Rattle.text_values.specs.ModelValue.{Clause}
use Rattle.litmus_printing.specs.Printing.{condition_text}
use Rattle.litmus_tokens.specs.declared.rule.LitmusRule.{LitmusRule}
use Rattle.litmus_tokens.specs.Numbers.{number_of as test_rule_number}
use Rattle.litmus_grammar.specs.Texts.{ReadsTest}
use Rattle.cat_tokens.specs.declared.rule.CatRule.{CatRule}
use Rattle.cat_tokens.specs.Tokens.{digits_number as model_rule_number}
use Rattle.cat_grammar.specs.declared.form.Form.TheVariants.{Model}
use Rattle.cat_grammar.specs.Reads.{ReadsClauses}
use Rattle.outcome_states.specs.declared.answer.Outcome.{Outcome}
use Rattle.outcome_states.specs.declared.answer.OutcomeResult.{OutcomeResult}
use Rattle.outcome_states.specs.declared.answer.OutcomeResult.TheVariants.{Refused, Evaluated}
use Rattle.outcome_texts.specs.Log.{log_of}
use Rattle.command_line.specs.declared.fault.SessionFault.{SessionFault}
use Rattle.command_line.specs.declared.fault.SessionFault.TheVariants as session_faults
use Rattle.session_edits.specs.Answer.{refused_line}
use Rattle.command_answers.specs.Answer.{IsModel, IsModelRefused, IsTestRefused}
use Rattle.command_answers.specs.Cut.{IsInputCut}
use Rattle.command_answers.specs.Made.{IsAnswerWritten}
use Rattle.meaning.specs.Names.{locations}
use Rattle.meaning.specs.Evaluates.{Evaluates}
use Rattle.meaning_states.specs.Texts.{IsPrinted}
use Rattle.meaning_outcomes.specs.Outcomes.{outcome_by_name}

-- ---- outcomes

-- The states of an evaluation have the texts of their values.
abbrev pub AreStatesPrinted : Content → OutcomeResult → Type 0
AreStatesPrinted test (Refused reason) = Unit {0}
AreStatesPrinted test (Evaluated evaluation) = All (IsPrinted test) evaluation.states

-- The outcome is what the test says under the model, with the condition and the states as they are
-- printed.
pub record IsOutcomeSaid (test : Content) (items : List Clause) (o : Outcome) : Type 0 where
  pub says : Evaluates test items (outcome_by_name (locations test) o.result)
  pub kind : o.kind ≡ test.quantifier
  pub condition : o.condition ≡ condition_text test.quantifier test.condition
  pub states : AreStatesPrinted test o.result

-- ---- logs

-- the log of what the test of the one text says under the model of the other
pub record IsLogSaid (model test log : List ℕ) : Type 0 where
  pub items : List Clause
  pub content : Content
  pub model_read : ReadsClauses Model model items
  pub test_read : ReadsTest test content
  pub outcome : Outcome
  pub said : IsOutcomeSaid content items outcome
  pub log_is : log ≡ log_of content.name outcome

-- what is printed of the two texts, where `refused` is whether one is refused: that log, or the line
-- of the first text that is refused
pub data IsAnswerSaid (model test text : List ℕ) (refused : Bool) : Type 0 where
  SaysLog : refused ≡ false → IsLogSaid model test text → IsAnswerSaid model test text refused
  RefusesModel : refused ≡ true → (rule : CatRule) → (offset : ℕ) → IsModelRefused model rule offset
      → text ≡ refused_line 67 (model_rule_number rule) offset
      → IsAnswerSaid model test text refused
  RefusesTest : refused ≡ true → (rule : LitmusRule) → (offset : ℕ) → IsModel model
      → IsTestRefused test rule offset → text ≡ refused_line 76 (test_rule_number rule) offset
      → IsAnswerSaid model test text refused

-- ---- streams

-- the answer to the two texts into which an input is cut, of which these bytes are left, where they
-- are known, is written: all of it, or a prefix of it where a write failed
pub record IsAnswerOf (left old new : Option (List ℕ)) (result : Result Bool SessionFault)
    : Type 0 where
  pub model : List ℕ
  pub test : List ℕ
  pub cut : IfSome left (λ bytes. IsInputCut bytes model test)
  pub written : IsAnswerWritten (IsAnswerSaid model test) old new result

-- a stream's answer: nothing is written unless the whole input was read
abbrev pub IsStreamSaid : (left old new : Option (List ℕ)) → Result Bool SessionFault → Type 0
IsStreamSaid left old new (Ok refused) = IsAnswerOf left old new (Ok refused)
IsStreamSaid left old new (Err session_faults.Write) =
    IsAnswerOf left old new (Err session_faults.Write)
IsStreamSaid left old new (Err session_faults.Read) = Keeps old new
IsStreamSaid left old new (Err session_faults.Memory) = Keeps old new
IsStreamSaid left old new (Err session_faults.Shared) = ⊥
