-- What `why` answers to a model's text and a test's text. Read `IsWhy` of reasons first.
use Rattle.std.specs.Prelude.{ℕ, List, Bool, true, false, Option, Result}
use Rattle.text_values.specs.declared.test.Test.{Test}
use Rattle.text_values.specs.TestValue.{content_of}
use Rattle.litmus_grammar.specs.Texts.{ReadsTest}
use Rattle.text_values.specs.declared.model.ModelText.{ModelText}
use Rattle.text_values.specs.ModelValues.{clauses_of}
use Rattle.cat_grammar.specs.declared.form.Form.TheVariants.{Model}
use Rattle.cat_grammar.specs.Reads.{ReadsClauses}
use Rattle.why_forbidden.specs.declared.answer.Asked.{Asked}
use Rattle.why_forbidden.specs.Whys.{IsWhy}
use Rattle.command_line.specs.declared.fault.SessionFault.{SessionFault}
use Rattle.command_answers.specs.Answer.{IsEvalAnswer}
use Rattle.command_answers.specs.Made.{IsAnswerWritten}

-- what is said of the test and the model that the two texts mean
pub record IsWhyOf (asked : Asked) (model test text : List ℕ) : Type 0 where
  pub items : ModelText
  pub model_read : ReadsClauses Model model (clauses_of items.items.items)
  pub known : Test
  pub test_read : ReadsTest test (content_of known)
  pub said : IsWhy asked known items text

-- that, or the line of the first text that is refused
abbrev pub IsWhyAnswer : Asked → List ℕ → List ℕ → List ℕ → Bool → Type 0
IsWhyAnswer asked model test text false = IsWhyOf asked model test text
IsWhyAnswer asked model test text true = IsEvalAnswer model test text true

-- the bytes of a sink, before and after: the answer, or a prefix of it where a write failed, and
-- else nothing
abbrev pub IsWhyWritten : Asked → List ℕ → List ℕ → Option (List ℕ) → Option (List ℕ)
    → Result Bool SessionFault → Type 0
IsWhyWritten asked model test old new result =
    IsAnswerWritten (IsWhyAnswer asked model test) old new result
