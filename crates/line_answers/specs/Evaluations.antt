-- The line of one evaluation. `eval_report` cites `IsEvalReport`.
use Rattle.std.specs.Prelude.{◌≡◌, ℕ, List}
use Rattle.cat_grammar.specs.declared.form.Form.TheVariants.{Model}
use Rattle.cat_grammar.specs.Reads.{ReadsClauses}
use Rattle.cat_tokens.specs.declared.rule.CatRule.{CatRule}
use Rattle.cat_tokens.specs.Tokens.{digits_number as model_rule_number}
use Rattle.text_values.specs.ModelValues.{clauses_of}
use Rattle.text_values.specs.declared.model.ModelText.{ModelText}
use Rattle.litmus_grammar.specs.Texts.{ReadsTest}
use Rattle.litmus_tokens.specs.declared.rule.LitmusRule.{LitmusRule}
use Rattle.litmus_tokens.specs.Numbers.{number_of as test_rule_number}
use Rattle.text_values.specs.declared.test.Test.{Test}
use Rattle.text_values.specs.TestValue.{content_of}
use Rattle.outcome_states.specs.declared.answer.Outcome.{Outcome}
use Rattle.from_scratch.specs.FromScratch.{IsFromScratch}
use Rattle.outcome_lines.specs.Records.{Subject}
use Rattle.outcome_lines.specs.Json.{eval_lines, refused_line}
use Rattle.command_answers.specs.declared.file.TextFile.{TextFile}
use Rattle.command_answers.specs.Answer.{IsModel, IsModelRefused, IsTestRefused}
use Rattle.command_answers.specs.Files.{model_stem}
use Rattle.command_answers.specs.Reports.{IsToldOf}
use Rattle.line_answers.specs.Results.{rule_text, refused_file}

-- the test of a file under the model of another, which is called as its file
abbrev pub evaluated_subject : TextFile → TextFile → Test → Subject
evaluated_subject model test t =
    record { path = test.path.now; test = t.name; model = model_stem model.path.now }

-- the line of an outcome of the test
abbrev pub IsOutcomeText : TextFile → TextFile → Test → ModelText → List ℕ → Type 0
IsOutcomeText model test t m text =
    (o : Outcome) × IsFromScratch t m o × (text ≡ eval_lines (evaluated_subject model test t) o)

-- the line of an outcome of the test and the model that the two texts mean, or that of the first
-- text that is refused
pub data IsEvalLine (model test : TextFile) (text : List ℕ) : Type 0 where
  IsOutcomeLine : (m : ModelText) (t : Test)
      → ReadsClauses Model model.text.items (clauses_of m.items.items)
      → ReadsTest test.text.items (content_of t) → IsOutcomeText model test t m text
      → IsEvalLine model test text
  IsModelRefusal : (rule : CatRule) (offset : ℕ) → IsModelRefused model.text.items rule offset
      → text ≡ refused_line (refused_file model (rule_text 67 (model_rule_number rule)) offset)
      → IsEvalLine model test text
  IsTestRefusal : (rule : LitmusRule) (offset : ℕ) → IsModel model.text.items
      → IsTestRefused test.text.items rule offset
      → text ≡ refused_line (refused_file test (rule_text 76 (test_rule_number rule)) offset)
      → IsEvalLine model test text

-- that line, and what is told of the first text that is refused
pub record IsEvalReport (model test : TextFile) (text faults : List ℕ) : Type 0 where
  pub line : IsEvalLine model test text
  pub told : IsToldOf model test faults
