-- What a file of a test gives under models: read this first, then Reports and Evaluations. Lists of
-- results and their lines are those of outcome_lines.
use Rattle.std.specs.Prelude.{◌≡◌, ℕ, List, [], ◌∷◌, decimal}
use Rattle.std.specs.List.{AllZip}
use Rattle.litmus_tokens.specs.declared.rule.LitmusRule.{LitmusRule}
use Rattle.litmus_tokens.specs.Numbers.{number_of as test_rule_number}
use Rattle.litmus_grammar.specs.Texts.{ReadsTest}
use Rattle.text_values.specs.declared.test.Test.{Test}
use Rattle.text_values.specs.TestValue.{content_of}
use Rattle.fault_texts.specs.Positions.{line_number, column_number}
use Rattle.from_scratch.specs.FromScratch.{IsFromScratch}
use Rattle.outcome_lines.specs.Records.{TextRefusal, ModelOutcome, TestResult, Refused, Tested}
use Rattle.command_answers.specs.declared.file.TextFile.{TextFile}
use Rattle.command_answers.specs.declared.reading.NamedModel.{NamedModel}
use Rattle.command_answers.specs.Answer.{IsTestRefused}
use Rattle.command_answers.specs.Files.{AddsFault}

-- the letter and the number of a rule, as `L9`
abbrev pub rule_text : ℕ → ℕ → List ℕ
rule_text letter number = letter ∷ decimal number

-- a file whose text is refused by this rule at this offset
abbrev pub refused_file : TextFile → List ℕ → ℕ → TextRefusal
refused_file file rule offset =
    record {
      path = file.path.now;
      rule = rule;
      offset = offset;
      line = line_number file.text.items offset;
      column = column_number file.text.items offset;
    }

-- the outcome is one of the test under the model, and has the model's name
pub record IsOutcomeUnder (test : Test) (m : NamedModel) (o : ModelOutcome) : Type 0 where
  pub name : o.model ≡ m.name
  pub outcome : IsFromScratch test m.model o.outcome

-- what a file gives: its result, and what is told of it where it is refused
pub record FileResult : Type 0 where
  pub result : TestResult
  pub told : List ℕ

-- the file holds a test, which has an outcome under each model, or it is refused and told
pub data IsFileResult (models : List NamedModel) (file : TextFile) (r : FileResult) : Type 0 where
  IsTestResult : (t : Test) (outcomes : List ModelOutcome)
      → ReadsTest file.text.items (content_of t) → AllZip (IsOutcomeUnder t) models outcomes
      → r.result ≡ Tested file.path.now t.name outcomes → r.told ≡ [] → IsFileResult models file r
  IsRefusedResult : (rule : LitmusRule) (offset : ℕ) → IsTestRefused file.text.items rule offset
      → r.result ≡ Refused (refused_file file (rule_text 76 (test_rule_number rule)) offset)
      → AddsFault [] r.told file.path.now file.text.items 76 (test_rule_number rule) offset
      → IsFileResult models file r
