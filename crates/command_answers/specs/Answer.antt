-- What is said of a model's text and a test's text.
use Rattle.std.specs.Prelude.{◌≡◌, ◌≢◌, ◌+◌, ◌≤◌, ◌⊎◌, ℕ, List, length, Bool, true, false, Option, Result, Ok, Err, IfSome}
use Rattle.std.specs.Io.KnownBytes.{Keeps}
use Rattle.std.specs.declared.alloc.Global.{Global}
use Rattle.std.specs.declared.vec.Vec.{Vec}
use Rattle.litmus_tokens.specs.declared.rule.LitmusRule.{LitmusRule}
use Rattle.litmus_tokens.specs.Numbers.{number_of as test_rule_number}
use Rattle.text_values.specs.declared.test.Test.{Test}
use Rattle.text_values.specs.TestValue.{Content, content_of}
use Rattle.litmus_grammar.specs.Texts.{ReadsTest, IsTestFault}
use Rattle.litmus_ppc.specs.declared.fault.LitmusFault.{LitmusFault}
use Rattle.litmus_ppc.specs.declared.fault.LitmusFault.TheVariants as test_faults
use Rattle.cat_syntax.specs.declared.fault.CatFault.{CatFault}
use Rattle.cat_syntax.specs.declared.fault.CatFault.TheVariants as model_faults
use Rattle.cat_tokens.specs.declared.rule.CatRule.{CatRule}
use Rattle.cat_tokens.specs.Tokens.{digits_number as model_rule_number}
use Rattle.text_values.specs.declared.model.ModelText.{ModelText}
use Rattle.text_values.specs.ModelValue as cat_value
use Rattle.text_values.specs.ModelValues.{clauses_of}
use Rattle.cat_grammar.specs.declared.form.Form.TheVariants.{Model}
use Rattle.cat_grammar.specs.Reads.{ReadsClauses, FaultAt}
use Rattle.outcome_states.specs.declared.answer.Outcome.{Outcome}
use Rattle.from_scratch.specs.FromScratch.{IsFromScratch}
use Rattle.command_answers.specs.declared.fault.EvalFault.{EvalFault}
use Rattle.command_answers.specs.declared.fault.EvalFault.TheVariants as eval_faults
use Rattle.command_line.specs.declared.fault.SessionFault.{SessionFault}
use Rattle.command_line.specs.declared.fault.SessionFault.TheVariants as session_faults
use Rattle.command_answers.specs.Cut.{IsInputCut}
use Rattle.outcome_texts.specs.Log.{log_of}
use Rattle.session_script.specs.Calls.{HasCalled}
use Rattle.session_edits.specs.Answer.{refused_line}
use Rattle.command_answers.specs.Made.{IsAnswerWritten}

-- ---- what a test that was read says under a model that was read

-- the log of what evaluating them from nothing gives
abbrev pub IsLogOf : Test → ModelText → List ℕ → Type 0
IsLogOf test model log = (o : Outcome) × IsFromScratch test model o × (log ≡ log_of test.name o)

-- the log of the test and the model that the two texts mean
pub record IsEvalLog (model test log : List ℕ) : Type 0 where
  pub items : ModelText
  pub model_read : ReadsClauses Model model (clauses_of items.items.items)
  pub known : Test
  pub test_read : ReadsTest test (content_of known)
  pub said : IsLogOf known items log

-- ---- refusals

-- the text means no model, and is blamed at this offset, by this rule
pub record IsModelRefused (model : List ℕ) (rule : CatRule) (offset : ℕ) : Type 0 where
  pub unread : (v : List cat_value.Clause) → ReadsClauses Model model v → ⊥
  pub fault : FaultAt Model model rule offset

-- the text means no test that the later checks pass, and is blamed at this offset, by this rule
pub record IsTestRefused (test : List ℕ) (rule : LitmusRule) (offset : ℕ) : Type 0 where
  pub unread : (v : Content) → ReadsTest test v → ⊥
  pub fault : IsTestFault test rule offset

-- the text means some model
abbrev pub IsModel : List ℕ → Type 0
IsModel model = (v : List cat_value.Clause) × ReadsClauses Model model v

-- the fault of a text that means nothing; want of memory is none
abbrev pub IsModelTextFault : List ℕ → CatFault → Type 0
IsModelTextFault model (model_faults.Refused rule offset) = IsModelRefused model rule offset
IsModelTextFault model (model_faults.OutOfMemory e) = ⊥

abbrev pub IsTestTextFault : List ℕ → LitmusFault → Type 0
IsTestTextFault test (test_faults.Refused rule offset) = IsTestRefused test rule offset
IsTestTextFault test (test_faults.OutOfMemory e) = ⊥

-- what stands in the way of a log: the fault of the model's text,
abbrev pub IsModelEvalFault : List ℕ → EvalFault → Type 0
IsModelEvalFault model (eval_faults.Model fault) = IsModelTextFault model fault
IsModelEvalFault model (eval_faults.Test fault) = ⊥
IsModelEvalFault model (eval_faults.Memory e) = Unit {0}

-- that of the test's text,
abbrev pub IsTestEvalFault : List ℕ → EvalFault → Type 0
IsTestEvalFault test (eval_faults.Model fault) = ⊥
IsTestEvalFault test (eval_faults.Test fault) = IsTestTextFault test fault
IsTestEvalFault test (eval_faults.Memory e) = Unit {0}

-- the first of the two, or want of memory
abbrev pub IsEvalRefusal : List ℕ → List ℕ → EvalFault → Type 0
IsEvalRefusal model test (eval_faults.Model fault) = IsModelTextFault model fault
IsEvalRefusal model test (eval_faults.Test fault) = IsModel model × IsTestTextFault test fault
IsEvalRefusal model test (eval_faults.Memory e) = Unit {0}

-- ---- answers

-- this is said of the two texts, where `refused` is whether one is refused: the log, or the line of
-- the first text that is refused
pub data IsEvalAnswer (model test text : List ℕ) (refused : Bool) : Type 0 where
  IsEvaluated : refused ≡ false → IsEvalLog model test text → IsEvalAnswer model test text refused
  RefusesModel : refused ≡ true → (rule : CatRule) → (offset : ℕ) → IsModelRefused model rule offset
      → text ≡ refused_line 67 (model_rule_number rule) offset
      → IsEvalAnswer model test text refused
  RefusesTest : refused ≡ true → (rule : LitmusRule) → (offset : ℕ) → IsModel model
      → IsTestRefused test rule offset → text ≡ refused_line 76 (test_rule_number rule) offset
      → IsEvalAnswer model test text refused

-- the line of a refusal
abbrev pub IsModelLine : CatFault → List ℕ → Type 0
IsModelLine (model_faults.Refused rule offset) text =
    text ≡ refused_line 67 (model_rule_number rule) offset
IsModelLine (model_faults.OutOfMemory e) text = ⊥

abbrev pub IsRefusedTestLine : LitmusFault → List ℕ → Type 0
IsRefusedTestLine (test_faults.Refused rule offset) text =
    text ≡ refused_line 76 (test_rule_number rule) offset
IsRefusedTestLine (test_faults.OutOfMemory e) text = ⊥

-- what is printed of a report, where `refused` is whether it was refused: the report, or the line
-- of the refusal
abbrev pub IsSaidOf : Result (Vec ℕ Global) EvalFault → List ℕ → Bool → Type 0
IsSaidOf (Ok report) text refused = (text ≡ report.items) × (refused ≡ false)
IsSaidOf (Err (eval_faults.Model fault)) text refused = IsModelLine fault text × (refused ≡ true)
IsSaidOf (Err (eval_faults.Test fault)) text refused = IsRefusedTestLine fault text × (refused ≡ true)
IsSaidOf (Err (eval_faults.Memory e)) text refused = ⊥

-- whatever is said of the first two texts is said of the other two
abbrev pub AreAnsweredAlike : List ℕ → List ℕ → List ℕ → List ℕ → Type 0
AreAnsweredAlike model test other_model other_test =
    (text : List ℕ) (refused : Bool) → IsEvalAnswer model test text refused
    → IsEvalAnswer other_model other_test text refused

-- the bytes of a sink, before and after an answer was written: all of it, or a prefix of it where a
-- write failed, and else nothing
abbrev pub IsEvalWritten : List ℕ → List ℕ → Option (List ℕ) → Option (List ℕ)
    → Result Bool SessionFault → Type 0
IsEvalWritten model test old new result = IsAnswerWritten (IsEvalAnswer model test) old new result

-- the same for the two texts into which an input is cut, of which these bytes are left, where they
-- are known
pub record IsWrittenOf (left old new : Option (List ℕ)) (result : Result Bool SessionFault)
    : Type 0 where
  pub model : List ℕ
  pub test : List ℕ
  pub cut : IfSome left (λ bytes. IsInputCut bytes model test)
  pub written : IsEvalWritten model test old new result

-- a stream's answer: nothing is written unless the whole input was read
abbrev pub IsStreamed : Option (List ℕ) → Option (List ℕ) → Option (List ℕ)
    → Result Bool SessionFault → Type 0
IsStreamed left old new (Ok refused) = IsWrittenOf left old new (Ok refused)
IsStreamed left old new (Err session_faults.Write) =
    IsWrittenOf left old new (Err session_faults.Write)
IsStreamed left old new (Err session_faults.Read) = Keeps old new
IsStreamed left old new (Err session_faults.Memory) = Keeps old new
IsStreamed left old new (Err session_faults.Shared) = ⊥

-- A read is refused: one call failed; or, where none did, so many calls were made that the input is
-- taken for one that does not end. Where its bytes are known there are as many of them at least.
abbrev pub IsReadFault : (old new calls calls_now : ℕ) → Option (List ℕ) → Type 0
IsReadFault old new calls calls_now left =
    (new ≡ old + 1)
    ⊎ ((new ≡ old) × HasCalled 16777216 calls calls_now
    × IfSome left (λ all. 16777216 ≤ length all))

-- how many reads have failed and how many were made, before and after: `Read` comes after a refused
-- read, and all else after no failed one
abbrev pub AreReadsCounted : {T : Type 0} → (old new calls calls_now : ℕ) → Option (List ℕ)
    → Result T SessionFault → Type 0
AreReadsCounted old new calls calls_now left result =
    (result ≡ Err session_faults.Read → IsReadFault old new calls calls_now left)
    × (result ≢ Err session_faults.Read → new ≡ old)

-- how many writes have failed, before and after: `Write` comes after one failed write, and all else
-- after none
abbrev pub AreWritesCounted : {T : Type 0} → ℕ → ℕ → Result T SessionFault → Type 0
AreWritesCounted old new result =
    (result ≡ Err session_faults.Write → new ≡ old + 1)
    × (result ≢ Err session_faults.Write → new ≡ old)
