-- The lines of files of tests under models. `line_report` cites `IsLineReport`.
use Rattle.std.specs.Prelude.{◌≡◌, ℕ, List, [], ◌++◌, map, length, if◌then◌else◌, ◌==◌}
use Rattle.std.specs.List.{AllZip, flat_map}
use Rattle.outcome_lines.specs.Records.{TestResult}
use Rattle.outcome_lines.specs.Tab.{tab_table_lines, tab_difference_lines}
use Rattle.outcome_lines.specs.Json.{json_table_lines, json_difference_lines}
use Rattle.command_answers.specs.declared.file.TextFile.{TextFile}
use Rattle.command_answers.specs.declared.reading.NamedModel.{NamedModel}
use Rattle.command_answers.specs.Reports.{AreModels}
use Rattle.line_answers.specs.declared.report.Lines.{Lines}
use Rattle.line_answers.specs.declared.report.Lines.TheVariants as kinds
use Rattle.line_answers.specs.Results.{FileResult, IsFileResult}

-- the lines of results, in their order
abbrev pub lines_of : Lines → List TestResult → List ℕ
lines_of kinds.TableTab results = tab_table_lines results
lines_of kinds.TableJson results = json_table_lines results
lines_of kinds.DifferenceTab results = tab_difference_lines results
lines_of kinds.DifferenceJson results = json_difference_lines results

abbrev pub of_two : List NamedModel → List ℕ → List ℕ
of_two models text = if length models == 2 then text else []

-- a difference has no lines where its models are not two
abbrev pub lines_said : Lines → List NamedModel → List ℕ → List ℕ
lines_said kinds.TableTab models text = text
lines_said kinds.TableJson models text = text
lines_said kinds.DifferenceTab models text = of_two models text
lines_said kinds.DifferenceJson models text = of_two models text

-- each file has its result under the models; the text is the lines of the results, one file behind
-- the other, and the files that are refused are told in that order
pub record AreLinesUnder (lines : Lines) (models : List NamedModel) (files : List TextFile)
    (text told : List ℕ) : Type 0 where
  pub results : List FileResult
  pub results_are : AllZip (IsFileResult models) files results
  pub text_is : text ≡ lines_said lines models (lines_of lines (map (λ r. r.result) results))
  pub told_is : told ≡ flat_map (λ r. r.told) results

-- those of the tests under the models that the files hold, the models' faults told first
pub record IsLineReport (lines : Lines) (model_files test_files : List TextFile)
    (text faults : List ℕ) : Type 0 where
  pub models : List NamedModel
  pub model_faults : List ℕ
  pub models_read : AreModels model_files models model_faults
  pub told : List ℕ
  pub lines_are : AreLinesUnder lines models test_files text told
  pub faults_are : faults ≡ model_faults ++ told
